use Rattle.std.proofs.Common.{rules, ℕ, List, option_map, refl, inl, inr}
use Rattle.std.specs.Borrow.{Bor}
use Rattle.std.proofs.KnownBytes.{Appends-kept, Keeps-refl}
use Rattle.haproxy_import.specs.Found.{Reads, imported}
use Rattle.program.proofs.Known.{of_known}
use Rattle.program.proofs.preparing.import.Goals as goal

-- it was printed
pub returns-in_ok-flush-in-Ok-clause-done : goal.returns-in_ok-flush-in-Ok-clause-done
returns-in_ok-flush-in-Ok-clause-done g c = λ known read.
    let text = c.in-Ok.written.items in
    let me = option_map (λ (name : Bor (List ℕ)). name.now) c.args.name in
    let made : Reads text (imported me c.args.read.now.text.items) = search rules in
    let before = g.O.Write.contents c.args.output.now in
    let printed = g.O.Write.contents c.write_all.new.self in
    let after = g.O.Write.contents c.flush.new.self in
    inl (record {
      text = text;
      ended = refl;
      written =
          of_known known c.args.read.now.text.items (λ file. Reads text (imported me file)) read
          made;
      told = (
        Appends-kept before printed after text
            (rw c.as_slice-in-Ok.ensures.value at c.in_ok-write_all-in-Ok.ensures.bytes)
            c.flush.ensures.bytes,
        Keeps-refl (g.E.Write.contents c.args.errors.now),
      );
    })

-- there is none
pub returns-in_ok-write_all-in-Err-Unlike-clause-done :
    goal.returns-in_ok-write_all-in-Err-Unlike-clause-done
returns-in_ok-write_all-in-Err-Unlike-clause-done g c = λ known read.
    inr (inl (record {
      ended = refl;
      told = (
        Keeps-refl (g.O.Write.contents c.args.output.now),
        c.in_ok-write_all-in-Err-Unlike.ensures.bytes,
      );
    }))
