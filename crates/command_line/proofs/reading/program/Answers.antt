use Rattle.std.proofs.Common.{◌≡◌, ◌∙◌, codes, false, ap, ap₂, true}
use Rattle.clap.specs.Words.{App, Shape, app_of, new_app, with_subcommand}
use Rattle.clap.specs.declared.builder.command.Command.TheViews.{out-Command as fields_of}
use Rattle.clap.specs.Simple.{app_of_fields, on_top}
use Rattle.command_line.specs.Asked.{bare, replay}
use Rattle.command_line.proofs.reading.program.Goals as goal

pub returns-clause-ok : goal.returns-clause-ok
returns-clause-ok c =
    let replay_is : app_of c.about-replay.result ≡ replay = ap app_of_fields c.about-replay.ensures
    ∙ c.new.ensures.app in
    let replay_local : (fields_of c.about-replay.result).has_globals ≡ false =
    ap (λ f. f.has_globals) c.about-replay.ensures ∙ c.new.ensures.local in
    let versioned : app_of c.version.result
    ≡ on_top (λ (s : Shape). record s { has_version = true })
    (new_app (codes "aggregator")) =
    ap app_of_fields c.version.ensures
    ∙ ap (on_top (λ (s : Shape). record s { has_version = true }))
    (ap app_of_fields c.about.ensures ∙ c.new-2.ensures.app) in
    let bare_is : app_of c.subcommand_required.result ≡ bare =
    ap app_of_fields c.subcommand_required.ensures
    ∙ ap (on_top (λ (s : Shape). record s { subcommand_required = true })) versioned in
    let with_replay = c.in_ok-subcommand.ensures.shape replay_local
    ∙ ap₂ with_subcommand bare_is (ap (λ (a : App). a.top) replay_is) in
    let with_import = c.in_ok-subcommand-2.ensures.shape c.in_ok-import.ensures.local
    ∙ ap₂ with_subcommand with_replay (ap (λ (a : App). a.top) c.in_ok-import.ensures.app) in
    let with_check = c.in_ok-subcommand-3.ensures.shape c.in_ok-check.ensures.local
    ∙ ap₂ with_subcommand with_import (ap (λ (a : App). a.top) c.in_ok-check.ensures.app) in
    c.in_ok-command.ensures.shape c.in_ok-listen.ensures.local
    ∙ ap₂ with_subcommand with_check (ap (λ (a : App). a.top) c.in_ok-listen.ensures.app)
