-- What the lines of a run have printed so far.
use Rattle.std.proofs.Common.{◌≡◌, ℕ, ◌+◌, List, [], ◌∷◌, ◌++◌, codes, Option, None, Some, Result}
use Rattle.std.proofs.Common.{Ok, Err, OnOk, OnErr, inl, inr, sym, ap, subst, ◌∙◌, refl}
use Rattle.std.proofs.Common.{append_assoc, append-nil}
use Rattle.std.specs.Io.KnownBytes.{Appends}
use Rattle.std.proofs.KnownBytes.{Appends-nil, Appends-trans}
use Rattle.agg_types.specs.declared.config.Config.{Config}
use Rattle.agg_types.specs.declared.no_memory.NoMemory as Refusal
use Rattle.fleet_core.specs.Represents.{Collected, Represents}
use Rattle.fleet_core.specs.declared.step.Step.{Step}
use Rattle.replay.specs.Given.{Given, IsSettled}
use Rattle.replay.specs.Runs.{LineDid, LineGives, Prints, Then}
use Rattle.replay.specs.Script.{OrNothing}
use Rattle.replay.specs.Writing.{AppendsFront, Wrote, WroteFront}
use Rattle.replay.specs.declared.ending.Ending.{Ending}
use Rattle.replay.specs.declared.ending.Ending.TheVariants.{Done, Failed}

-- what a run prints
abbrev pub RunPrints : Config → ℕ → List (List ℕ) → ℕ → List ℕ → Ending → Type 0
RunPrints config opening lines number = OrNothing (Prints config opening lines [] number)

-- the lines so far printed this text, and what the others print is printed behind it
pub record SoFar (config : Config) (opening : ℕ) (lines : List (List ℕ)) (number : ℕ)
    (before : Option (List ℕ))
    (fleet : Collected) (left : List (List ℕ)) (next : ℕ) (after : Option (List ℕ)) : Type 0 where
  pub past : List Step
  pub text : List ℕ
  pub settled : IsSettled fleet config opening past
  pub appends : Appends before after text
  pub goes_on : (more : List ℕ) (ending : Ending) → Prints config opening left past next more ending
      → Prints config opening lines [] number (text ++ more) ending

-- the same of the lines of a source, and of those that are left of it
abbrev pub SourceSoFar : Config → ℕ → ℕ → Option (List ℕ) → Collected → ℕ → Option (List ℕ)
    → List (List ℕ) → List (List ℕ) → Type 0
SourceSoFar config opening number before fleet next after lines left =
    SoFar config opening lines number before fleet left next after

-- before the first line
pub so_far_none : (config : Config) (opening : ℕ) (lines : List (List ℕ)) (number : ℕ)
    (before : Option (List ℕ)) (fleet : Collected) → Represents fleet config opening []
    → fleet.waiting ≡ []
    → SoFar config opening lines number before fleet lines number before
so_far_none config opening lines number before fleet stands waiting =
    record {
      past = [];
      text = [];
      settled = record { stands = stands; waiting = waiting };
      appends = Appends-nil before;
      goes_on = λ more ending prints. prints;
    }

-- what a line printed, with what follows it
line_prints : (config : Config) (opening : ℕ) (line : List ℕ) (left : List (List ℕ))
    (past : List Step) (next : ℕ) (given : Given) (last : Option Ending) (more : List ℕ)
    (ending : Ending) → LineGives config opening past next line given → last ≡ given.ending
    → Then last (Prints config opening left given.past (next + 1)) more ending
    → Prints config opening (line ∷ left) past next (given.text ++ more) ending
line_prints config opening line left past next given last more ending gives is behind =
    inr (
      given,
      more,
      gives,
      refl,
      subst (λ (o : Option Ending). Then o (Prints config opening left given.past (next + 1)) more
          ending) is behind,
    )

-- one line more, which goes on
pub so_far_more : (config : Config) (opening : ℕ) (lines : List (List ℕ)) (number : ℕ)
    (before : Option (List ℕ)) (old new : Collected) (all : List (List ℕ)) (line : List ℕ)
    (left : List (List ℕ)) (next : ℕ) (middle after : Option (List ℕ)) (empty printed : List ℕ)
    (last : Option Ending)
    → SoFar config opening lines number before old all next middle → all ≡ line ∷ left → empty ≡ []
    → ((past : List Step) → IsSettled old config opening past
    → LineDid (LineGives config opening past next line) new config opening empty printed last)
    → last ≡ None
    → Appends middle after printed → SoFar config opening lines number before new left
    (next + 1) after
so_far_more config opening lines number before old new all line left next middle after empty printed
    last h is none did goes_on wrote =
    let d = did h.past h.settled in
    let text : printed ≡ d.given.text = d.did.text ∙ ap (λ (e : List ℕ). e ++ d.given.text) none in
    record {
      past = d.given.past;
      text = h.text ++ d.given.text;
      settled = d.did.settled;
      appends = Appends-trans before middle after h.text d.given.text h.appends
          (subst (λ (t : List ℕ). Appends middle after t) text wrote);
      goes_on = λ more ending prints. subst (λ (t : List ℕ). Prints config opening lines [] number t
          ending) (sym (append_assoc h.text d.given.text more))
          (h.goes_on (d.given.text ++ more) ending
          (subst (λ (ls : List (List ℕ)). Prints config opening ls h.past next
          (d.given.text ++ more) ending) (sym is)
          (line_prints config opening line left h.past next d.given None more ending d.gives
          (sym goes_on ∙ d.did.ended) prints)));
    }

-- what a run prints that ends so
ends : (config : Config) (opening : ℕ) (lines : List (List ℕ)) (number : ℕ)
    (before : Option (List ℕ)) (fleet : Collected) (all : List (List ℕ)) (next : ℕ)
    (middle after : Option (List ℕ)) (more : List ℕ) (ending : Ending)
    → SoFar config opening lines number before fleet all next middle
    → ((past : List Step) → IsSettled fleet config opening past
    → Prints config opening all past next more ending)
    → Appends middle after more → Wrote (RunPrints config opening lines number) before after ending
ends config opening lines number before fleet all next middle after more ending h prints wrote =
    record {
      text = h.text ++ more;
      appends = Appends-trans before middle after h.text more h.appends wrote;
      says = inl (h.goes_on more ending (prints h.past h.settled));
    }

-- what a run prints of which a beginning was written
breaks : (config : Config) (opening : ℕ) (lines : List (List ℕ)) (number : ℕ)
    (before : Option (List ℕ)) (fleet : Collected) (all : List (List ℕ)) (next : ℕ)
    (middle after : Option (List ℕ)) (text more : List ℕ) (ending : Ending)
    → (h : SoFar config opening lines number before fleet all next middle)
    → Prints config opening all h.past next (text ++ more) ending
    → AppendsFront middle after text
    → WroteFront (RunPrints config opening lines number) before after
breaks config opening lines number before fleet all next middle after text more ending h
    prints wrote =
    record {
      text = h.text ++ (text ++ more);
      ending = ending;
      appends = record {
        front = h.text ++ wrote.front;
        behind = wrote.behind ++ more;
        whole = ap (λ (t : List ℕ). h.text ++ (t ++ more)) wrote.whole
            ∙ ap (λ (t : List ℕ). h.text ++ t) (append_assoc wrote.front wrote.behind more)
            ∙ sym (append_assoc h.text wrote.front (wrote.behind ++ more));
        appends = Appends-trans before middle after h.text wrote.front h.appends wrote.appends;
      };
      says = inl (h.goes_on (text ++ more) ending prints);
    }

-- no line is left
pub ran : (config : Config) (opening : ℕ) (lines : List (List ℕ)) (number : ℕ)
    (before : Option (List ℕ)) (fleet : Collected) (all : List (List ℕ)) (next : ℕ)
    (after : Option (List ℕ))
    → SoFar config opening lines number before fleet all next after → all ≡ []
    → Wrote (RunPrints config opening lines number) before after Done
ran config opening lines number before fleet all next after h none =
    ends config opening lines number before fleet all next after after [] Done h
    (λ past settled. subst (λ (ls : List (List ℕ)). Prints config opening ls past next [] Done)
    (sym none) (refl, refl)) (Appends-nil after)

-- a line ended it
pub ran_to : (config : Config) (opening : ℕ) (lines : List (List ℕ)) (number : ℕ)
    (before : Option (List ℕ)) (old new : Collected) (all : List (List ℕ)) (line : List ℕ)
    (left : List (List ℕ)) (next : ℕ) (middle after : Option (List ℕ)) (empty printed : List ℕ)
    (last : Option Ending) (ending : Ending)
    → SoFar config opening lines number before old all next middle → all ≡ line ∷ left → empty ≡ []
    → ((past : List Step) → IsSettled old config opening past
    → LineDid (LineGives config opening past next line) new config opening empty printed last)
    → last ≡ Some ending
    → Appends middle after printed
    → Wrote (RunPrints config opening lines number) before after ending
ran_to config opening lines number before old new all line left next middle after empty printed last
    ending h is none did ends_so wrote =
    ends config opening lines number before old all next middle after printed ending h
    (λ past settled. let d = did past settled in
    subst (λ (ls : List (List ℕ)). Prints config opening ls past next printed ending) (sym is)
    (subst (λ (t : List ℕ). Prints config opening (line ∷ left) past next t ending)
    (append-nil d.given.text ∙ sym (d.did.text ∙ ap (λ (e : List ℕ). e ++ d.given.text) none))
    (line_prints config opening line left past next d.given (Some ending) [] ending d.gives
    (sym ends_so ∙ d.did.ended) (refl, refl))))
    wrote

-- a line for which an allocation failed
lacks : (config : Config) (opening : ℕ) (all : List (List ℕ)) (line : List ℕ) (left : List (List ℕ))
    (past : List Step) (next : ℕ) → all ≡ line ∷ left → Prints config opening all past next
    (codes "fault NoMemory\n") Failed
lacks config opening all line left past next is =
    subst (λ (ls : List (List ℕ)). Prints config opening ls past next (codes "fault NoMemory\n")
    Failed) (sym is) (inl (refl, refl))

pub ran_out : (config : Config) (opening : ℕ) (lines : List (List ℕ)) (number : ℕ)
    (before : Option (List ℕ)) (fleet : Collected) (all : List (List ℕ)) (line : List ℕ)
    (left : List (List ℕ)) (next : ℕ) (middle after : Option (List ℕ))
    → SoFar config opening lines number before fleet all next middle → all ≡ line ∷ left
    → Appends middle after (codes "fault NoMemory\n")
    → Wrote (RunPrints config opening lines number) before after Failed
ran_out config opening lines number before fleet all line left next middle after h is wrote =
    ends config opening lines number before fleet all next middle after (codes "fault NoMemory\n")
    Failed h (λ past settled. lacks config opening all line left past next is) wrote

-- a write of that failed
pub broke_out : (config : Config) (opening : ℕ) (lines : List (List ℕ)) (number : ℕ)
    (before : Option (List ℕ)) (fleet : Collected) (all : List (List ℕ)) (line : List ℕ)
    (left : List (List ℕ)) (next : ℕ) (middle after : Option (List ℕ))
    → SoFar config opening lines number before fleet all next middle → all ≡ line ∷ left
    → AppendsFront middle after (codes "fault NoMemory\n") → WroteFront
    (RunPrints config opening lines number) before after
broke_out config opening lines number before fleet all line left next middle after h is wrote =
    breaks config opening lines number before fleet all next middle after (codes "fault NoMemory\n")
    [] Failed h
    (subst (λ (t : List ℕ). Prints config opening all h.past next t Failed)
    (sym (append-nil (codes "fault NoMemory\n"))) (lacks config opening all line left h.past next
    is)) wrote

-- what may follow a line: nothing where it ends the replay, and else NoMemory at the next
record Follows (config : Config) (opening : ℕ) (left : List (List ℕ)) (past : List Step) (next : ℕ)
    (last : Option Ending) : Type 0 where
  pub more : List ℕ
  pub ending : Ending
  pub behind : Then last (Prints config opening left past next) more ending

follows : (config : Config) (opening : ℕ) (left : List (List ℕ)) (past : List Step) (next : ℕ)
    (last : Option Ending) → Follows config opening left past next last
follows config opening [] past next None = record {
  more = [];
  ending = Done;
  behind =
      (refl, refl);
}
follows config opening (line ∷ left) past next None =
    record { more = codes "fault NoMemory\n"; ending = Failed; behind = inl (refl, refl) }
follows config opening left past next (Some ending) = record {
  more = [];
  ending = ending;
  behind =
      (refl, refl);
}

-- a read failed: what was written may be followed by something
pub unread : (config : Config) (opening : ℕ) (lines : List (List ℕ)) (number : ℕ)
    (before : Option (List ℕ)) (fleet : Collected) (all : List (List ℕ)) (next : ℕ)
    (after : Option (List ℕ)) → SoFar config opening lines number before fleet all next after
    → WroteFront (RunPrints config opening lines number) before after
unread config opening lines number before fleet all next after h =
    let f = follows config opening all h.past next None in
    breaks config opening lines number before fleet all next after after [] f.more f.ending h
    f.behind (record { front = []; behind = []; whole = refl; appends = Appends-nil after })

-- a write of a line's text failed
pub broke : (config : Config) (opening : ℕ) (lines : List (List ℕ)) (number : ℕ)
    (before : Option (List ℕ)) (old new : Collected) (all : List (List ℕ)) (line : List ℕ)
    (left : List (List ℕ)) (next : ℕ) (middle after : Option (List ℕ)) (empty printed : List ℕ)
    (last : Option Ending)
    → SoFar config opening lines number before old all next middle → all ≡ line ∷ left → empty ≡ []
    → ((past : List Step) → IsSettled old config opening past
    → LineDid (LineGives config opening past next line) new config opening empty printed last)
    → AppendsFront middle after printed
    → WroteFront (RunPrints config opening lines number) before after
broke config opening lines number before old new all line left next middle after empty printed last
    h is none did wrote =
    let d = did h.past h.settled in
    let f = follows config opening left d.given.past (next + 1) last in
    breaks config opening lines number before old all next middle after printed f.more f.ending h
    (subst (λ (ls : List (List ℕ)). Prints config opening ls h.past next (printed ++ f.more)
    f.ending) (sym is)
    (subst (λ (t : List ℕ). Prints config opening (line ∷ left) h.past next (t ++ f.more) f.ending)
    (sym (d.did.text ∙ ap (λ (e : List ℕ). e ++ d.given.text) none))
    (line_prints config opening line left h.past next d.given last f.more f.ending d.gives
    d.did.ended f.behind)))
    wrote

-- nothing was written before the fleet was open
pub front_nothing : (Says : List ℕ → Ending → Type 0) (before : Option (List ℕ))
    → WroteFront (OrNothing Says) before before
front_nothing Says before = record {
  text = [];
  ending = Failed;
  appends = record { front = []; behind = []; whole = refl; appends = Appends-nil before };
  says = inr (refl, refl);
}

-- the opening lacked memory
pub wrote_nothing : (Says : List ℕ → Ending → Type 0) (before : Option (List ℕ))
    → Wrote (OrNothing Says) before before Failed
wrote_nothing Says before = record {
  text = [];
  appends = Appends-nil before;
  says =
      inr (refl, refl);
}

-- what a last call gave that appends
pub on_ok : (r : Result (Unit {0}) Refusal.NoMemory) (P Q : Type 0) → (P → Q) → OnOk r P → OnOk r Q
on_ok (Ok x) P Q f h = f h
on_ok (Err e) P Q f h = h

-- what holds, also of an error
pub on_err : {A E : Type 0} (r : Result A E) (P : Type 0) → P → OnErr r P
on_err (Ok x) P h = tt
on_err (Err e) P h = h
