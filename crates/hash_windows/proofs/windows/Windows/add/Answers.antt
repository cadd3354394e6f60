use Rattle.std.proofs.Common.{◌≡◌, ◌-◌, ◌++◌, ◌∷◌, [], length, ap, sym, ◌∙◌, arith}
use Rattle.std.specs.Prelude.{slice_set}
use Rattle.hash_windows.proofs.Words.{kept_by_grow}
use Rattle.hash_windows.specs.Windows.{short_of, word_of}
use Rattle.hash_windows.proofs.windows.Windows.add.Goals as goal

pub returns : goal.returns
returns c =
    λ h q has.
    let ws = c.args.self.now.windows.items in
    let from : c.saturating_sub-from.result ≡ length ws - c.args.self.now.half =
    omega arith in
    let after : c.replace.new.self.items
    ≡ slice_set (ws ++ c.parted-sides.result.1 ∷ []) c.saturating_sub-from.result
    c.parted-sides.result.0 =
    c.replace.ensures.after
    ∙ ap (λ l. slice_set l c.saturating_sub-from.result c.parted-sides.result.0)
    c.in-Ok.ensures.ok in
    record {
      word = kept_by_grow c.args.self.now.wide c.args.self.now.half
          c.saturating_sub-from.result ws c.replace.new.self.items c.window_at-window.result
          c.parted-sides.result.0 c.parted-sides.result.1 (short_of h) (word_of (short_of h) q)
          after from (omega arith)
          c.window_at-window.ensures
          (λ w there other. c.parted-sides.ensures.stay w there
          (λ e. other (e ∙ c.len-count.ensures)))
          (λ w there is. c.parted-sides.ensures.go w there (is ∙ sym c.len-count.ensures))
          has.word;
    }
