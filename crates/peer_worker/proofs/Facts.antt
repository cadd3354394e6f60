-- What a piece's facts are: each may be posted.
use Rattle.std.proofs.Common.{◌≡◌, ℕ, zero, suc, Bool, true, List, [], ◌∷◌, ◌++◌, Option, Some}
use Rattle.std.proofs.Common.{refl, sym, ap, subst, ◌∙◌, arith}
use Rattle.std.specs.List.{All, list_all}
use Rattle.std.proofs.lemmas.List.Folds.{list_all-append}
use Rattle.agg_types.specs.Fits.{fits}
use Rattle.agg_types.specs.declared.config.Config.{Config}
use Rattle.agg_types.specs.declared.event.What.{What}
use Rattle.agg_types.specs.declared.event.What.TheVariants.{Sit, Open, Put, Clear, AddFilter}
use Rattle.agg_types.specs.declared.event.What.TheVariants.{DropFilter, Moment, Leave}
use Rattle.hub.proofs.Counting.{and_left, and_right}
use Rattle.hub.specs.Roll.{MayPost}
use Rattle.session_core.proofs.FactLemmas.{facts_are}
use Rattle.session_core.specs.Batched.{Batched}
use Rattle.peer_worker.proofs.Works.{TookIt, fault_stands, stage_at}
use Rattle.session_core.specs.declared.batch.SessionFault.{SessionFault}
use Rattle.session_core.specs.declared.cause.SessionCause.{SessionCause}
use Rattle.session_core.specs.declared.cause.SessionCause.TheVariants as causes
use Rattle.session_core.specs.declared.stage.Stage.{Stage}
use Rattle.session_core.specs.State.{FaultAnswers, SessionState}
use Rattle.session_core.specs.Piece.{Setup, piece_of, setup_of}
use Rattle.session_core.specs.Talk.{Grows, stage_of, talk}
use Rattle.session_core.specs.TalkAnswers.{FaultAnswersTalk, ContinuesTalk, is_open_or_put}

may_post_one : (config : Config) (what : What) → fits config what ≡ true
    → is_open_or_put what ≡ true → MayPost config what
may_post_one config Sit fit is = absurd (cc is)
may_post_one config (Open peer) fit is = record { fits = fit; sits = refl; leaves = refl }
may_post_one config (Put peer table key life cells) fit is =
    record { fits = fit; sits = refl; leaves = refl }
may_post_one config (Clear table sel) fit is = absurd (cc is)
may_post_one config (AddFilter filter) fit is = absurd (cc is)
may_post_one config (DropFilter name) fit is = absurd (cc is)
may_post_one config (Moment moment) fit is = absurd (cc is)
may_post_one config Leave fit is = absurd (cc is)

pub all_cons : {X : Type 0} (P : X → Type 0) (x : X) (xs : List X) → P x → All P xs → All P (x ∷ xs)
all_cons P x xs p ps zero d below = p
all_cons P x xs p ps (suc k) d below = ps k d (omega arith)

pub may_post_all : (config : Config) (whats : List What) → list_all (fits config) whats ≡ true
    → list_all is_open_or_put whats ≡ true → All (MayPost config) whats
may_post_all config [] fit is = λ k d below. absurd (omega arith)
may_post_all config (what ∷ whats) fit is =
    all_cons (MayPost config) what whats
    (may_post_one config what (and_left (fits config what) (list_all (fits config) whats) fit)
    (and_left (is_open_or_put what) (list_all is_open_or_put whats) is))
    (may_post_all config whats (and_right (fits config what) (list_all (fits config) whats) fit)
    (and_right (is_open_or_put what) (list_all is_open_or_put whats) is))

-- the facts by which a talk grows are Opens and Puts
pub grown_are : (setup : Setup) (seated : Bool) (taken piece : List ℕ) (batch : Batched)
    → Grows setup (talk setup seated taken) (talk setup seated (taken ++ piece)) batch
    → list_all is_open_or_put batch.facts ≡ true
grown_are setup seated taken piece batch grows =
    and_right (list_all is_open_or_put (talk setup seated taken).facts)
    (list_all is_open_or_put batch.facts)
    (sym (list_all-append is_open_or_put (talk setup seated taken).facts batch.facts)
    ∙ (ap (list_all is_open_or_put) (sym grows.facts) ∙ facts_are setup seated (taken ++ piece)))

none_for_all : {X : Type 0} (P : X → Type 0) (xs : List X) → xs ≡ [] → All P xs
none_for_all P [] is = λ k d below. absurd (omega arith)
none_for_all P (x ∷ xs) is = absurd (cc is)

-- the facts of a batch may be posted
pub fact_may_post : (config0 config : Config) (seat0 seated : Bool) (taken piece : List ℕ)
    (before after : Stage) (batch : Batched) (end : Option SessionCause)
    → config0 ≡ config → seat0 ≡ seated → before ≡ stage_of (setup_of config) seated taken
    → ((bytes : List ℕ) → before ≡ stage_of (setup_of config0) seat0 bytes
    → ContinuesTalk (setup_of config0) seat0 bytes piece batch end after)
    → ((bytes : List ℕ) → before ≡ stage_of (setup_of config0) seat0 bytes
    → list_all (fits config0) batch.facts ≡ true)
    → All (MayPost config) batch.facts
fact_may_post config0 config seat0 seated taken piece before after batch end same_config
    same is f fit =
    let at : before ≡ stage_of (setup_of config0) seat0 taken =
    stage_at config0 config seat0 seated taken before same_config same is in
    let stands : ContinuesTalk (setup_of config0) seat0 taken piece batch end after = f taken at in
    may_post_all config batch.facts
    (subst (λ (c : Config). list_all (fits c) batch.facts ≡ true) same_config (fit taken at))
    (grown_are (setup_of config0) seat0 taken piece batch stands.grows)

none_for_memory : (cause : SessionCause) (batch : Batched) (old new : SessionState) (piece : List ℕ)
    (now : ℕ) (setup0 : Setup) (seat1 : Bool) (stage0 : Stage)
    → FaultAnswers cause batch old new piece now (piece_of setup0 seat1 stage0 piece)
    → cause ≡ causes.NoMemory → batch.facts ≡ []
none_for_memory (causes.Refused status) batch old new piece now setup0 seat1 stage0 answers is =
    absurd (cc is)
none_for_memory (causes.Wire wire) batch old new piece now setup0 seat1 stage0 answers is =
    absurd (cc is)
none_for_memory causes.PeerError batch old new piece now setup0 seat1 stage0 answers is =
    absurd (cc is)
none_for_memory causes.TimedOut batch old new piece now setup0 seat1 stage0 answers is =
    absurd (cc is)
none_for_memory causes.NoMemory batch old new piece now setup0 seat1 stage0 answers is =
    ap (λ (b : Batched). b.facts) answers.0

-- the same of a batch that comes with a fault
pub fault_may_post : (config0 config : Config) (seat0 seated : Bool) (taken piece : List ℕ)
    (before after : Stage) (old new : SessionState) (now : ℕ) (setup0 : Setup) (seat1 : Bool)
    (stage0 : Stage) (fault : SessionFault)
    → config0 ≡ config → seat0 ≡ seated → before ≡ stage_of (setup_of config) seated taken
    → ((bytes : List ℕ) → before ≡ stage_of (setup_of config0) seat0 bytes
    → FaultAnswersTalk fault.cause fault.batch (setup_of config0) seat0 bytes piece after)
    → ((bytes : List ℕ) → before ≡ stage_of (setup_of config0) seat0 bytes
    → list_all (fits config0) fault.batch.facts ≡ true)
    → FaultAnswers fault.cause fault.batch old new piece now (piece_of setup0 seat1 stage0 piece)
    → All (MayPost config) fault.batch.facts
fault_may_post config0 config seat0 seated taken piece before after old new now setup0 seat1 stage0
    fault same_config same is f fit exact = by_cause fault.cause refl
  where
    took : TookIt fault.cause → All (MayPost config) fault.batch.facts
    took t =
        fact_may_post config0 config seat0 seated taken piece before after fault.batch
        (Some fault.cause) same_config same is
        (λ bytes at. fault_stands fault.cause fault.batch (setup_of config0) seat0 bytes piece after
        t (f bytes at)) fit

    by_cause : (cause : SessionCause) → fault.cause ≡ cause → All (MayPost config) fault.batch.facts
    by_cause (causes.Refused status) is = took (subst TookIt (sym is) tt)
    by_cause (causes.Wire wire) is = took (subst TookIt (sym is) tt)
    by_cause causes.PeerError is = took (subst TookIt (sym is) tt)
    by_cause causes.TimedOut is = took (subst TookIt (sym is) tt)
    by_cause causes.NoMemory is = none_for_all (MayPost config) fault.batch.facts
        (none_for_memory fault.cause fault.batch old new piece now setup0 seat1 stage0 exact is)
