-- What the facts of a talk are, and how many.
use Rattle.std.proofs.Common.{◌≡◌, ℕ, zero, suc, ◌+◌, ◌<◌, ◌≤◌, Bool, true, false, if◌then◌else◌}
use Rattle.std.proofs.Common.{List, [], ◌∷◌, ◌++◌, length, Option, Some, None, Result, Ok, Err}
use Rattle.std.proofs.Common.{refl, sym, ap, arith, length-append}
use Rattle.std.specs.List.{list_all}
use Rattle.std.specs.Str.{bytes_eq}
use Rattle.agg_types.specs.declared.config.Shape.{Shape}
use Rattle.agg_types.specs.declared.event.What.{What}
use Rattle.peers_msg.specs.declared.message.Message.{Message}
use Rattle.peers_msg.specs.Message.{First, Unfinished, Faulty, Whole, Reading, first_of, reading_by}
use Rattle.peers_msg.specs.Message.{reading_of, reading_within}
use Rattle.session_core.specs.declared.cause.Status.{Status}
use Rattle.session_core.specs.declared.cause.Status.TheVariants.{LocalName}
use Rattle.session_core.specs.declared.track.Followed.{Followed}
use Rattle.session_core.specs.Meaning.{Meaning, Nothing, Confirm, Partial, Fact, End}
use Rattle.session_core.specs.Hello.{◌>>=◌, admitted, hello_of, line_at, peer_of, receiver_line}
use Rattle.session_core.specs.Hello.{sender_line, sender_of, unless, version_fault}
use Rattle.session_core.specs.HelloLines.{HasLine}
use Rattle.session_core.specs.Piece.{Setup}
use Rattle.session_core.specs.Talk.{Words, meaning, talk, talk_after, words_of, words_on}
use Rattle.session_core.specs.TalkAnswers.{is_open_or_put}
use Rattle.session_core.specs.Tracked.{put_of}
use Rattle.update_values.specs.Values.{cells_at, key_at}
use Rattle.std.specs.Prelude.{slice_get}
use Rattle.session_core.proofs.FitLemmas.{bind_some, some_same, words_all}
use Rattle.session_core.proofs.HelloLineLemmas.{LineIs, line_is}

row_is_put : (tables : List Shape) (peer : ℕ) (followed : Followed) (life : Option ℕ)
    (bytes : List ℕ) (put : What) → put_of tables peer followed life bytes ≡ Some put
    → is_open_or_put put ≡ true
unfolding put_of
row_is_put tables peer followed life bytes put is =
    let shape = bind_some (slice_get tables followed.table) _ put is in
    let key = bind_some (key_at shape.0.kind bytes) _ put shape.2 in
    let cells = bind_some (cells_at followed.layout shape.0.cols key.0.1) _ put key.2 in
    ap is_open_or_put (sym (some_same cells.2))

facts_after : (tables : List Shape) (hello : Result (Option (ℕ × List ℕ)) Status)
    → list_all is_open_or_put (talk_after tables hello).facts ≡ true
facts_after tables (Ok None) = refl
facts_after tables (Err status) = refl
facts_after tables (Ok (Some hello)) =
    words_all is_open_or_put tables hello.0 [] (reading_of hello.1).messages
    (row_is_put tables hello.0)

pub facts_are : (setup : Setup) (seated : Bool) (bytes : List ℕ)
    → list_all is_open_or_put (talk setup seated bytes).facts ≡ true
unfolding talk
facts_are setup seated bytes = facts_after setup.tables (hello_of setup.me setup.peers seated bytes)

-- ---- how many

words_on_few : (past : List Message) (words : Words) (heard : Meaning) (n : ℕ)
    → length words.facts ≤ n → length (words_on past words heard).facts ≤ suc n
words_on_few past words Nothing n h = omega (arith, h)
words_on_few past words Confirm n h = omega (arith, h)
words_on_few past words Partial n h = omega (arith, h)
words_on_few past words (Fact fact) n h = omega (arith, h)
words_on_few past words (End end) n h = omega arith

words_few : (tables : List Shape) (peer : ℕ) (past messages : List Message)
    → length (words_of tables peer past messages).facts ≤ length messages
unfolding words_of
words_few tables peer past [] = omega arith
words_few tables peer past (message ∷ messages) =
    words_on_few past (words_of tables peer (message ∷ past) messages)
    (meaning tables peer past message) (length messages)
    (words_few tables peer (message ∷ past) messages)

by_few : (n : ℕ) (next : List ℕ → Reading) (bytes : List ℕ) (first : First)
    → ((rest : List ℕ) → length (next rest).messages ≤ n)
    → length (reading_by next bytes first).messages ≤ suc n
by_few n next bytes Unfinished each = omega arith
by_few n next bytes (Faulty cause) each = omega arith
by_few n next bytes (Whole message rest) each = omega (arith, each rest)

within_few : (n : ℕ) (bytes : List ℕ) → length (reading_within n bytes).messages ≤ n
unfolding reading_within
within_few zero bytes = omega arith
within_few (suc n) bytes = by_few n (reading_within n) bytes (first_of bytes) (within_few n)

messages_few : (bytes : List ℕ) → length (reading_of bytes).messages ≤ length bytes
unfolding reading_of
messages_few bytes = within_few (length bytes) bytes

-- what is left behind a hello is shorter than this
abbrev pub Behind : ℕ → Result (Option (ℕ × List ℕ)) Status → Type 0
Behind n (Ok (Some x)) = length x.1 < n
Behind n (Ok None) = Unit {0}
Behind n (Err status) = Unit {0}

line_behind : (bytes line rest : List ℕ) → HasLine bytes line rest → length rest < length bytes
line_behind bytes line rest h =
    let len : length (h.0 ++ 10 ∷ rest) ≡ length h.0 + suc (length rest) =
    length-append h.0 (10 ∷ rest) in
    rw h.1 (omega (arith, len))

bind_behind : (n : ℕ) (bytes : List ℕ) (r : Result (Option (List ℕ × List ℕ)) Status) (f : List ℕ
    × List ℕ → Result (Option (ℕ × List ℕ)) Status) → length bytes ≤ n → LineIs bytes r
    → ((line rest : List ℕ) → length rest < n → Behind n (f (line, rest))) → Behind n (r >>= f)
bind_behind n bytes (Ok (Some x)) f le is each =
    each x.0 x.1 (omega (arith, line_behind bytes x.0 x.1 is, le))
bind_behind n bytes (Ok None) f le is each = tt
bind_behind n bytes (Err status) f le is each = tt

admitted_behind : (n : ℕ) (seated : Bool) (rest : List ℕ) (peer : Option ℕ) → length rest < n
    → Behind n (admitted seated rest peer)
admitted_behind n seated rest None lt = tt
admitted_behind n false rest (Some peer) lt = tt
admitted_behind n true rest (Some peer) lt = lt

sender_behind : (n : ℕ) (peers : List (List ℕ)) (seated : Bool) (bytes : List ℕ) → length bytes ≤ n
    → Behind n (sender_line peers seated bytes)
unfolding sender_line
sender_behind n peers seated bytes le =
    bind_behind n bytes (line_at bytes)
    (λ line. admitted seated line.1 (peer_of peers (sender_of line.0))) le (line_is bytes)
    (λ line rest lt. admitted_behind n seated rest (peer_of peers (sender_of line)) lt)

chosen_behind : (n : ℕ) (named : Bool) (next : Result (Option (ℕ × List ℕ)) Status) → Behind n next
    → Behind n (if named then next else Err LocalName)
chosen_behind n true next h = h
chosen_behind n false next h = tt

receiver_behind : (n : ℕ) (me : List ℕ) (peers : List (List ℕ)) (seated : Bool) (bytes : List ℕ)
    → length bytes ≤ n → Behind n (receiver_line me peers seated bytes)
unfolding receiver_line
receiver_behind n me peers seated bytes le =
    bind_behind n bytes (line_at bytes) (λ line. if bytes_eq me line.0 then sender_line peers seated
    line.1 else Err LocalName) le (line_is bytes)
    (λ line rest lt. chosen_behind n (bytes_eq me line) (sender_line peers seated rest)
    (sender_behind n peers seated rest (omega (arith, lt))))

unless_behind : (n : ℕ) (fault : Option Status) (next : Result (Option (ℕ × List ℕ)) Status)
    → Behind n next → Behind n (unless fault next)
unless_behind n None next h = h
unless_behind n (Some fault) next h = tt

hello_behind : (me : List ℕ) (peers : List (List ℕ)) (seated : Bool) (bytes : List ℕ)
    → Behind (length bytes) (hello_of me peers seated bytes)
unfolding hello_of
hello_behind me peers seated bytes =
    bind_behind (length bytes) bytes (line_at bytes)
    (λ line. unless (version_fault line.0) (receiver_line me peers seated line.1)) (omega arith)
    (line_is bytes)
    (λ line rest lt. unless_behind (length bytes) (version_fault line)
    (receiver_line me peers seated rest) (receiver_behind (length bytes) me peers seated rest
    (omega (arith, lt))))

few_after : (tables : List Shape) (n : ℕ) (hello : Result (Option (ℕ × List ℕ)) Status)
    → Behind n hello → length (talk_after tables hello).facts ≤ n
few_after tables n (Ok None) h = omega arith
few_after tables n (Err status) h = omega arith
few_after tables n (Ok (Some hello)) h =
    omega (
      arith,
      h,
      words_few tables hello.0 [] (reading_of hello.1).messages,
      messages_few hello.1,
    )

pub facts_few : (setup : Setup) (seated : Bool) (bytes : List ℕ)
    → length (talk setup seated bytes).facts ≤ length bytes
unfolding talk
facts_few setup seated bytes =
    few_after setup.tables (length bytes) (hello_of setup.me setup.peers seated bytes)
    (hello_behind setup.me setup.peers seated bytes)
