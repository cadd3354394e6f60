-- Every fact fits the configuration.
use Rattle.std.proofs.Common.{inl, inr, ◌≡◌, ℕ, ◌%◌, ◌^◌, ◌<◌, ◌≤◌, Bool, true, false, ◌==◌, ◌&&◌}
use Rattle.std.proofs.Common.{if◌then◌else◌, List, [], ◌∷◌, ◌++◌, length, take, map, slice_get}
use Rattle.std.proofs.Common.{is_some}
use Rattle.std.proofs.Common.{Option, Some, None, Result, Ok, Err, refl, sym, ap, ◌∙◌, arith, lit<}
use Rattle.std.specs.List.{list_all}
use Rattle.std.specs.Option.{option_map}
use Rattle.std.specs.Prelude.{min}
use Rattle.std.specs.Str.{bytes_eq}
use Rattle.std.proofs.Math.Nat.{mod-lt}
use Rattle.std.proofs.lemmas.Bool.{false≢true, lt-ltb, le-leb, eq-eqb}
use Rattle.std.proofs.lemmas.List.{length-take-le, length-take}
use Rattle.std.proofs.lemmas.List.Folds.{list_all-append}
use Rattle.std.proofs.lemmas.List.Quantifiers.{position-Some}
use Rattle.peers_msg.specs.Payload.{◌>>=◌, string_at}
use Rattle.peers_msg.specs.declared.message.Message.{Message}
use Rattle.peers_msg.specs.declared.message.Message.TheVariants as messages
use Rattle.agg_types.specs.Col.{is_rate, is_wide}
use Rattle.agg_types.specs.Fits.{cell_fits, cells_fit, fits, key_fits, life_fits}
use Rattle.agg_types.specs.declared.column.Col.{Col}
use Rattle.agg_types.specs.declared.config.Config.{Config}
use Rattle.agg_types.specs.declared.config.KeyKind.{KeyKind}
use Rattle.agg_types.specs.declared.config.KeyKind.TheVariants.{Integer, Ip, Ipv6, Str, Binary}
use Rattle.agg_types.specs.declared.config.Shape.{Shape}
use Rattle.agg_types.specs.declared.event.Cell.{Cell}
use Rattle.agg_types.specs.declared.event.What.{What}
use Rattle.agg_types.specs.declared.event.What.TheVariants.{Put}
use Rattle.peers_msg.specs.Message.{reading_of}
use Rattle.peers_msg.specs.declared.fault.WireCause.TheVariants.{BadField}
use Rattle.session_core.specs.declared.batch.SessionFault.{SessionFault}
use Rattle.session_core.specs.declared.cause.End.{End as Ending}
use Rattle.session_core.specs.declared.cause.End.TheVariants.{Wire}
use Rattle.session_core.specs.declared.cause.SessionCause.{SessionCause}
use Rattle.session_core.specs.declared.cause.SessionCause.TheVariants as causes
use Rattle.session_core.specs.declared.cause.Status.{Status}
use Rattle.session_core.specs.declared.cause.Status.TheVariants.{LocalName}
use Rattle.session_core.specs.declared.stage.StageOutcome.{StageOutcome}
use Rattle.session_core.specs.Meaning.{Meaning, Nothing, Confirm, Partial, Fact, End}
use Rattle.session_core.specs.declared.track.Followed.{Followed}
use Rattle.update_values.specs.declared.layout.Layout.{Layout}
use Rattle.session_core.specs.Batched.{Batched}
use Rattle.session_core.specs.Hello as hello
use Rattle.session_core.specs.Hello.{admitted, hello_of, line_at, peer_of, receiver_line}
use Rattle.session_core.specs.Hello.{sender_line, sender_of, unless, version_fault}
use Rattle.session_core.specs.InForce.{followed_ids, table_in_force}
use Rattle.session_core.specs.Piece.{setup_of}
use Rattle.session_core.specs.State.{Answers, FaultAnswers, SessionState}
use Rattle.session_core.specs.Talk.{Words, is_too_many, meaning, row_or_end, talk, talk_after}
use Rattle.session_core.specs.Talk.{update_under, words_of, words_on}
use Rattle.session_core.specs.TalkAnswers.{FactsFit, FaultAnswersTalk, AnswersTalk}
use Rattle.session_core.specs.Tracked.{followed_of, put_of}
use Rattle.session_core.specs.Lives.{life_of, life_said, life_within}
use Rattle.update_values.specs.Layout.{types_read}
use Rattle.update_values.specs.Values.{bytes_at, cell_of, cells_at, count_in, key_at, rate_in}
use Rattle.update_values.specs.Values.{text_at, values_from}
use Rattle.session_core.proofs.MeaningLemmas.{bool_tells, none_some}
use Rattle.session_core.proofs.TrackLemmas.{lt_tells}

-- ---- cells

rate_fits : (col : Col) (numbers : List ℕ) → cell_fits col (rate_in numbers) ≡ is_rate col
rate_fits col [] = refl
rate_fits col (elapsed ∷ []) = refl
rate_fits col (elapsed ∷ cur ∷ []) = refl
rate_fits col (elapsed ∷ cur ∷ prev ∷ numbers) = refl

limit_some : (wide : Bool) → 0 < (if wide then 2 ^ 64 else 2 ^ 32)
limit_some true = lit< tt
limit_some false = lit< tt

count_fits : (col : Col) (numbers : List ℕ) → is_rate col ≡ false
    → cell_fits col (count_in (is_wide col) numbers) ≡ true
count_fits col [] rate = rw (
  rate,
  lt-ltb 0 (if is_wide col then 2 ^ 64 else 2 ^ 32) (limit_some (is_wide col)),
) refl
count_fits col (count ∷ numbers) rate =
    let limit = if is_wide col then 2 ^ 64 else 2 ^ 32 in
    rw (
      rate,
      lt-ltb (count % limit) limit (mod-lt count (limit_some (is_wide col))),
    ) refl

cell_is_fit : (layout : Layout) (values : List (List ℕ)) (col : Col × ℕ)
    → cell_fits col.0 (cell_of layout values col) ≡ true
unfolding cell_of
cell_is_fit layout values col =
    elim (bool_tells (is_rate col.0)) [
      | inl e ↦ rw e (rate_fits col.0 _ ∙ e)
      | inr e ↦ rw e (count_fits col.0 _ e)
    ]

cells_are_fit : (layout : Layout) (values : List (List ℕ)) (cols : List (Col × ℕ))
    → cells_fit cols (map (cell_of layout values) cols) ≡ true
cells_are_fit layout values [] = refl
cells_are_fit layout values (col ∷ cols) =
    rw (cell_is_fit layout values col, cells_are_fit layout values cols) refl

-- ---- keys

pub some_same : {A : Type 0} {x y : A} → Some x ≡ Some y → x ≡ y
some_same e = cc

bytes_fit : (len : ℕ) (bytes : List ℕ) (x : List ℕ × List ℕ) → bytes_at len bytes ≡ Some x
    → length x.0 ≡ len
bytes_fit len bytes x is =
    elim (lt_tells (length bytes) len) [
      | inl p ↦ elim (none_some x (rw p.0 at is)) [ ]
      | inr p ↦ let same = rw p.0 at is in
          (let e : take len bytes ≡ x.0 = ap (λ (y : List ℕ × List ℕ). y.0) (some_same same) in
          ap length (sym e) ∙ length-take-le len bytes p.1)
    ]

text_fits_by : (len : ℕ) (text : Option (List ℕ × List ℕ)) (x : List ℕ × List ℕ)
    → (text >>= λ t. Some (take len t.0, t.1)) ≡ Some x → length x.0 ≤ len
text_fits_by len None x is = elim (none_some x is) [ ]
text_fits_by len (Some t) x is =
    let e : take len t.0 ≡ x.0 = ap (λ (y : List ℕ × List ℕ). y.0) (some_same is) in
    rw (← e, length-take len t.0) (omega arith)

text_fits : (len : ℕ) (bytes : List ℕ) (x : List ℕ × List ℕ) → text_at len bytes ≡ Some x
    → length x.0 ≤ len
unfolding text_at
text_fits len bytes x is = text_fits_by len (string_at bytes) x is

key_is_fit : (kind : KeyKind) (bytes : List ℕ) (x : List ℕ × List ℕ) → key_at kind bytes ≡ Some x
    → key_fits kind x.0 ≡ true
key_is_fit Integer bytes x is = eq-eqb (length x.0) 4 (bytes_fit 4 bytes x is)
key_is_fit Ip bytes x is = eq-eqb (length x.0) 4 (bytes_fit 4 bytes x is)
key_is_fit Ipv6 bytes x is = eq-eqb (length x.0) 16 (bytes_fit 16 bytes x is)
key_is_fit (Str len) bytes x is = le-leb (length x.0) len (text_fits len bytes x is)
key_is_fit (Binary len) bytes x is = eq-eqb (length x.0) len (bytes_fit len bytes x is)

-- ---- lives

life_is_fit_by : (life : Option ℕ)
    → life_fits (option_map (λ most. min most 4294967295) life) ≡ true
life_is_fit_by None = refl
life_is_fit_by (Some most) = lt-ltb _ (2 ^ 32) (omega arith)

life_is_fit : (keep : Option ℕ) (expiry : ℕ) (life : Option ℕ)
    → life_fits (life_of keep expiry life) ≡ true
life_is_fit keep expiry life = life_is_fit_by (life_within keep (life_said expiry life))

-- ---- rows

pub bind_some : {A B : Type 0} (o : Option A) (f : A → Option B) (y : B) → (o >>= f) ≡ Some y
    → (x : A) × (o ≡ Some x) × (f x ≡ Some y)
bind_some (Some x) f y e = (x, refl, e)
bind_some None f y e = elim (none_some y e) [ ]

read_are_fit : (layout : Layout) (cols : List (Col × ℕ)) (bytes : List ℕ) (cells : List Cell)
    → cells_at layout cols bytes ≡ Some cells → cells_fit cols cells ≡ true
unfolding cells_at
read_are_fit layout cols bytes cells is =
    let values = bind_some (values_from layout (types_read layout cols) 0 bytes) _ cells is in
    ap (cells_fit cols) (sym (some_same values.2)) ∙ cells_are_fit layout values.0 cols

put_fits : (config : Config) (peer : ℕ) (followed : Followed) (life : Option ℕ) (shape : Shape)
    (key : List ℕ) (cells : List Cell) → peer < length config.peers
    → slice_get config.tables followed.table ≡ Some shape → key_fits shape.kind key ≡ true
    → cells_fit shape.cols cells ≡ true
    → fits config (Put peer followed.table key (life_of shape.keep followed.expiry life) cells)
    ≡ true
put_fits config peer followed life shape key cells within at key_is cells_are =
    rw (
      lt-ltb peer (length config.peers) within,
      life_is_fit shape.keep followed.expiry life,
      at,
    ) (rw (key_is, cells_are) refl)

pub put_is_fit : (config : Config) (peer : ℕ) (followed : Followed) (life : Option ℕ)
    (bytes : List ℕ) (put : What) → peer < length config.peers
    → put_of config.tables peer followed life bytes ≡ Some put → fits config put ≡ true
unfolding put_of
put_is_fit config peer followed life bytes put within is =
    let shape = bind_some (slice_get config.tables followed.table) _ put is in
    let key = bind_some (key_at shape.0.kind bytes) _ put shape.2 in
    let cells = bind_some (cells_at followed.layout shape.0.cols key.0.1) _ put key.2 in
    ap (fits config) (sym (some_same cells.2)) ∙ put_fits config peer followed life shape.0 key.0.0
    cells.0 within shape.1 (key_is_fit shape.0.kind bytes key.0 key.1)
    (read_are_fit followed.layout shape.0.cols key.0.1 cells.0 cells.1)

-- ---- messages

end_fact : {end : Ending} (fact : What) → End end ≡ Fact fact → ⊥
end_fact fact e = cc

nothing_fact : (fact : What) → Nothing ≡ Fact fact → ⊥
nothing_fact fact e = cc

partial_fact : (fact : What) → Partial ≡ Fact fact → ⊥
partial_fact fact e = cc

confirm_fact : (fact : What) → Confirm ≡ Fact fact → ⊥
confirm_fact fact e = cc

fact_same : {a b : What} → Fact a ≡ Fact b → a ≡ b
fact_same e = cc

-- a fact of every row that an update gives
abbrev pub OfRows : (What → Bool) → List Shape → ℕ → Type 0
OfRows P tables peer = (followed : Followed) (life : Option ℕ) (bytes : List ℕ) (put : What)
    → put_of tables peer followed life bytes ≡ Some put → P put ≡ true

row_all : (P : What → Bool) (tables : List Shape) (peer : ℕ) (followed : Followed) (life : Option ℕ)
    (bytes : List ℕ) (put : Option What) (fact : What) → OfRows P tables peer
    → put_of tables peer followed life bytes ≡ put → row_or_end put ≡ Fact fact → P fact ≡ true
row_all P tables peer followed life bytes None fact each is e = elim (end_fact fact e) [ ]
row_all P tables peer followed life bytes (Some put) fact each is e = ap P (sym (fact_same e))
    ∙ each followed life bytes put is

update_all : (P : What → Bool) (tables : List Shape) (peer : ℕ) (table : Option Followed)
    (life : Option ℕ) (bytes : List ℕ) (fact : What) → OfRows P tables peer
    → update_under tables peer table life bytes ≡ Fact fact → P fact ≡ true
update_all P tables peer None life bytes fact each e = elim (nothing_fact fact e) [ ]
update_all P tables peer (Some followed) life bytes fact each e =
    row_all P tables peer followed life bytes (put_of tables peer followed life bytes)
    fact each refl e

define_all : (P : What → Bool) (many : Bool) (fact : What)
    → (if many then End (Wire BadField) else Nothing) ≡ Fact fact → P fact ≡ true
define_all P true fact e = elim (end_fact fact e) [ ]
define_all P false fact e = elim (nothing_fact fact e) [ ]

meaning_all : (P : What → Bool) (tables : List Shape) (peer : ℕ) (past : List Message)
    (message : Message) (fact : What) → OfRows P tables peer → meaning tables peer past message
    ≡ Fact fact → P fact ≡ true
unfolding meaning
meaning_all P tables peer past messages.Request fact each e = elim (partial_fact fact e) [ ]
meaning_all P tables peer past messages.Finished fact each e = elim (confirm_fact fact e) [ ]
meaning_all P tables peer past messages.Partial fact each e = elim (confirm_fact fact e) [ ]
meaning_all P tables peer past messages.Confirm fact each e = elim (nothing_fact fact e) [ ]
meaning_all P tables peer past messages.Heartbeat fact each e = elim (nothing_fact fact e) [ ]
meaning_all P tables peer past messages.ProtocolError fact each e = elim (end_fact fact e) [ ]
meaning_all P tables peer past messages.SizeError fact each e = elim (end_fact fact e) [ ]
meaning_all P tables peer past (messages.Update id life rest) fact each e =
    update_all P tables peer (table_in_force tables past) life rest fact each e
meaning_all P tables peer past (messages.Define definition) fact each e =
    define_all P (is_too_many (is_some (followed_of tables definition)) definition.id
    (followed_ids tables past)) fact e
meaning_all P tables peer past (messages.Switch id) fact each e = elim (nothing_fact fact e) [ ]
meaning_all P tables peer past (messages.Acked id last) fact each e = elim (nothing_fact fact e) [ ]
meaning_all P tables peer past (messages.Other class kind) fact each e =
    elim (nothing_fact fact e) [ ]

words_on_all : (P : What → Bool) (past : List Message) (words : Words) (heard : Meaning)
    → ((fact : What) → heard ≡ Fact fact → P fact ≡ true) → list_all P words.facts ≡ true
    → list_all P (words_on past words heard).facts ≡ true
words_on_all P past words Nothing is h = h
words_on_all P past words Confirm is h = h
words_on_all P past words Partial is h = h
words_on_all P past words (Fact fact) is h = rw (is fact refl) h
words_on_all P past words (End end) is h = refl

pub words_all : (P : What → Bool) (tables : List Shape) (peer : ℕ) (past messages : List Message)
    → OfRows P tables peer → list_all P (words_of tables peer past messages).facts ≡ true
unfolding words_of
words_all P tables peer past [] each = refl
words_all P tables peer past (message ∷ messages) each =
    words_on_all P past (words_of tables peer (message ∷ past) messages)
    (meaning tables peer past message) (λ fact e. meaning_all P tables peer past message fact
    each e) (words_all P tables peer (message ∷ past) messages each)

words_fit : (config : Config) (peer : ℕ) (past messages : List Message) → peer < length config.peers
    → list_all (fits config) (words_of config.tables peer past messages).facts ≡ true
words_fit config peer past messages within =
    words_all (fits config) config.tables peer past messages
    (λ followed life bytes put is. put_is_fit config peer followed life bytes put within is)

-- ---- the hello's peer

-- a peer that was found is configured
abbrev pub Within : ℕ → Result (Option (ℕ × List ℕ)) Status → Type 0
Within n (Ok (Some x)) = x.0 < n
Within n (Ok None) = Unit {0}
Within n (Err status) = Unit {0}

bind_within : {A : Type 0} (n : ℕ) (first : Result (Option A) Status) (f : A
    → Result (Option (ℕ × List ℕ)) Status) → ((x : A) → Within n (f x))
    → Within n (hello.◌>>=◌ first f)
bind_within n (Ok (Some x)) f each = each x
bind_within n (Ok None) f each = tt
bind_within n (Err status) f each = tt

admitted_within : (n : ℕ) (seated : Bool) (rest : List ℕ) (peer : Option ℕ)
    → ((p : ℕ) → peer ≡ Some p → p < n) → Within n (admitted seated rest peer)
admitted_within n seated rest None is = tt
admitted_within n false rest (Some peer) is = tt
admitted_within n true rest (Some peer) is = is peer refl

sender_within : (peers : List (List ℕ)) (seated : Bool) (bytes : List ℕ)
    → Within (length peers) (sender_line peers seated bytes)
unfolding sender_line
sender_within peers seated bytes =
    bind_within (length peers) (line_at bytes)
    (λ line. admitted seated line.1 (peer_of peers (sender_of line.0)))
    (λ line. admitted_within (length peers) seated line.1 (peer_of peers (sender_of line.0))
    (λ p e. (position-Some (λ peer. bytes_eq peer (sender_of line.0)) peers p [] e).0))

chosen_within : (n : ℕ) (named : Bool) (next : Result (Option (ℕ × List ℕ)) Status) → Within n next
    → Within n (if named then next else Err LocalName)
chosen_within n true next h = h
chosen_within n false next h = tt

receiver_within : (me : List ℕ) (peers : List (List ℕ)) (seated : Bool) (bytes : List ℕ)
    → Within (length peers) (receiver_line me peers seated bytes)
unfolding receiver_line
receiver_within me peers seated bytes =
    bind_within (length peers) (line_at bytes) (λ line. if bytes_eq me line.0 then sender_line peers
    seated line.1 else Err LocalName)
    (λ line. chosen_within (length peers) (bytes_eq me line.0) (sender_line peers seated line.1)
    (sender_within peers seated line.1))

unless_within : (n : ℕ) (fault : Option Status) (next : Result (Option (ℕ × List ℕ)) Status)
    → Within n next → Within n (unless fault next)
unless_within n None next h = h
unless_within n (Some fault) next h = tt

hello_within : (me : List ℕ) (peers : List (List ℕ)) (seated : Bool) (bytes : List ℕ)
    → Within (length peers) (hello_of me peers seated bytes)
unfolding hello_of
hello_within me peers seated bytes =
    bind_within (length peers) (line_at bytes)
    (λ line. unless (version_fault line.0) (receiver_line me peers seated line.1))
    (λ line. unless_within (length peers) (version_fault line.0)
    (receiver_line me peers seated line.1) (receiver_within me peers seated line.1))

-- ---- all bytes

talk_after_fits : (config : Config) (hello : Result (Option (ℕ × List ℕ)) Status)
    → Within (length config.peers) hello
    → list_all (fits config) (talk_after config.tables hello).facts ≡ true
talk_after_fits config (Ok None) within = refl
talk_after_fits config (Err status) within = refl
talk_after_fits config (Ok (Some hello)) within =
    rw (lt-ltb hello.0 (length config.peers) within)
    (words_fit config hello.0 [] (reading_of hello.1).messages within)

pub talk_fits : (config : Config) (seated : Bool) (bytes : List ℕ)
    → list_all (fits config) (talk (setup_of config) seated bytes).facts ≡ true
unfolding talk
talk_fits config seated bytes =
    talk_after_fits config (hello_of config.me config.peers seated bytes)
    (hello_within config.me config.peers seated bytes)

and_second : (a b : Bool) → (a && b) ≡ true → b ≡ true
and_second true b e = e
and_second false b e = absurd (false≢true e)

-- what a piece adds to them fits too
grown_fit : (config : Config) (seated : Bool) (taken piece : List ℕ) (facts : List What)
    → (talk (setup_of config) seated (taken ++ piece)).facts
    ≡ (talk (setup_of config) seated taken).facts ++ facts → list_all (fits config) facts ≡ true
grown_fit config seated taken piece facts e =
    and_second (list_all (fits config) (talk (setup_of config) seated taken).facts)
    (list_all (fits config) facts)
    (sym (list_all-append (fits config) (talk (setup_of config) seated taken).facts facts)
    ∙ ap (list_all (fits config)) (sym e) ∙ talk_fits config seated (taken ++ piece))

fault_fits : (config : Config) (seated : Bool) (taken piece : List ℕ) (cause : SessionCause)
    (batch : Batched) (old new : SessionState) (now : ℕ) (x : StageOutcome)
    → FaultAnswersTalk cause batch (setup_of config) seated taken piece new.stage
    → FaultAnswers cause batch old new piece now x → list_all (fits config) batch.facts ≡ true
fault_fits config seated taken piece causes.NoMemory batch old new now x tells answers =
    ap (λ (b : Batched). list_all (fits config) b.facts) answers.0
fault_fits config seated taken piece (causes.Refused status) batch old new now x tells answers =
    grown_fit config seated taken piece batch.facts tells.grows.facts
fault_fits config seated taken piece (causes.Wire wire) batch old new now x tells answers =
    grown_fit config seated taken piece batch.facts tells.grows.facts
fault_fits config seated taken piece causes.PeerError batch old new now x tells answers =
    grown_fit config seated taken piece batch.facts tells.grows.facts
fault_fits config seated taken piece causes.TimedOut batch old new now x tells answers =
    grown_fit config seated taken piece batch.facts tells.grows.facts

pub answer_fits : (config : Config) (seated : Bool) (taken piece : List ℕ)
    (result : Result Batched SessionFault) (old new : SessionState) (now : ℕ) (x : StageOutcome)
    → AnswersTalk result (setup_of config) seated taken piece new.stage
    → Answers result old new piece now x → FactsFit config result
answer_fits config seated taken piece (Ok batch) old new now x tells answers =
    grown_fit config seated taken piece batch.facts tells.grows.facts
answer_fits config seated taken piece (Err fault) old new now x tells answers =
    fault_fits config seated taken piece fault.cause fault.batch old new now x tells answers
