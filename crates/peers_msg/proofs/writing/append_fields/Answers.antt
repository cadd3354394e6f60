use Rattle.std.proofs.Common.{◌∙◌, ap, ◌++◌, List, ℕ}
use Rattle.std.proofs.lemmas.Result.{on_ok_weaker}
use Rattle.peers_msg.specs.Spelling.{integer_spelling}
use Rattle.peers_msg.proofs.Spellings.{seven_appended}
use Rattle.peers_msg.proofs.writing.append_fields.Goals as goal

pub returns : goal.returns
returns c =
    let d = c.args.definition.now in
    on_ok_weaker c.append_int-6.result
    (λ h. seven_appended c.args.out.now.items c.append_int.new.out.items
    c.append_int-2.new.out.items c.extend_from_slice.new.self.items c.append_int-3.new.out.items
    c.append_int-4.new.out.items c.append_int-5.new.out.items c.append_int-6.new.out.items _ _
    d.name _ _ _ _
    c.in_ok-append_int.ensures.ok (c.in_ok-append_int-2.ensures.ok
    ∙ ap (λ n. c.append_int.new.out.items ++ integer_spelling n) c.len.ensures.value)
    (c.in_ok-extend_from_slice.ensures.items
    ∙ ap (λ (bs : List ℕ). c.append_int-2.new.out.items ++ bs) c.as_slice.ensures)
    c.in_ok-append_int-3.ensures.ok c.in_ok-append_int-4.ensures.ok
    c.in_ok-append_int-5.ensures.ok h) c.append_int-6.ensures.ok
