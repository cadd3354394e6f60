use Rattle.std.proofs.Common.{ℕ, List, ◌++◌, codes, sym, subst, refl}
use Rattle.std.specs.Prelude.{string_bytes}
use Rattle.std.specs.Net.Text.{socket_text}
use Rattle.program.specs.Faults.{IsTextOf}
use Rattle.program.specs.declared.fault.Fault.{Fault}
use Rattle.program.proofs.fault.tell.Goals as goal

pub returns-in_ok-writeln-in-Address-clause-text : goal.returns-in_ok-writeln-in-Address-clause-text
returns-in_ok-writeln-in-Address-clause-text g c =
    let reason = c.in_ok-reason-in-Address.reason.bytes.items in
    let text : List ℕ =
    codes "cannot listen at " ++ (socket_text c.in-Address.address
    ++ (codes ": " ++ (reason ++ codes "\n"))) in (
      text,
      subst (λ (fault : Fault). IsTextOf fault text) (sym c.in-Address.is) (reason, refl),
      c.in_ok-writeln-in-Address.ensures.bytes,
    )

pub returns-in_ok-writeln-in-Path-clause-text : goal.returns-in_ok-writeln-in-Path-clause-text
returns-in_ok-writeln-in-Path-clause-text g c =
    let reason = c.in_ok-reason-in-Path.reason.bytes.items in
    let text : List ℕ =
    codes "cannot listen at " ++ (string_bytes c.in-Path.path
    ++ (codes ": " ++ (reason ++ codes "\n"))) in (
      text,
      subst (λ (fault : Fault). IsTextOf fault text) (sym c.in-Path.is) (reason, refl),
      c.in_ok-writeln-in-Path.ensures.bytes,
    )
