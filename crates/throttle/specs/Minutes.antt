-- Minutes in which lines are told.
use Rattle.std.specs.Prelude.{ℕ, Bool, ◌+◌, ◌-◌, ◌&&◌, nat_lt, if◌then◌else◌}
use Rattle.std.specs.Prelude.{List, [], ◌∷◌}
use Rattle.std.specs.Str.{bytes_eq}
use Rattle.throttle.specs.declared.flow.Flow.{Flow}
use Rattle.throttle.specs.declared.minute.Minute.{Minute}

-- a minute that begins
abbrev pub fresh : ℕ → Minute
fresh now = record { began = now; told = 0 }

-- whether a line was told in a minute, and it isn't over
abbrev pub is_on : Minute → ℕ → Bool
is_on minute now = nat_lt 0 minute.told && nat_lt (now - minute.began) 60000

-- the minute of a line at this moment: the one that isn't over, or one that begins with the line
abbrev pub minute_at : Minute → ℕ → Minute
minute_at minute now = if is_on minute now then minute else fresh now

-- one more line is told in a minute
abbrev pub one_more : Minute → Minute
one_more minute = record { began = minute.began; told = minute.told + 1 }

-- whether this is remembered of a source, and its minute isn't over
abbrev pub is_of : List ℕ → ℕ → Flow → Bool
is_of source now flow = bytes_eq flow.source.items source && is_on flow.minute now

-- the minute of a source's line at this moment, by what is remembered of the sources
abbrev pub minute_in : List Flow → List ℕ → ℕ → Minute
minute_in [] source now = fresh now
minute_in (flow ∷ flows) source now =
    if is_of source now flow then flow.minute else minute_in flows source now
