use Rattle.std.proofs.Common.{◌∙◌, ◌++◌, ap}
use Rattle.std.proofs.lemmas.Result.{on_ok_weaker}
use Rattle.peers_msg.specs.Spelling.{integer_spelling}
use Rattle.telling.proofs.Texts.{seven_appended}
use Rattle.telling.proofs.draft.append_fields.Goals as goal

pub returns : goal.returns
returns c =
    let p = c.args.pushed.now in
    on_ok_weaker c.put_int-6.result
    (λ h. seven_appended c.args.out.now.items c.put_int.new.out.items
    c.put_int-2.new.out.items c.extend_from_slice.new.self.items c.put_int-3.new.out.items
    c.put_int-4.new.out.items c.put_int-5.new.out.items c.put_int-6.new.out.items _ _
    p.name _ _ (integer_spelling 4) _
    c.in_ok-put_int.ensures.ok (c.in_ok-put_int-2.ensures.ok
    ∙ (cc))
    (c.in_ok-extend_from_slice.ensures.items
    ∙ (cc))
    (c.in_ok-put_int-3.ensures.ok ∙ (cc)) (c.in_ok-put_int-4.ensures.ok ∙ (cc))
    (c.in_ok-put_int-5.ensures.ok
    ∙ ap (λ bits. c.put_int-4.new.out.items ++ integer_spelling bits) c.stored_types.ensures)
    (h ∙ (cc))) c.put_int-6.ensures.ok
