use Rattle.std.specs.Prelude.{ℕ, Bool, true, false, List, [], ◌∷◌, codes, ◌==◌}
use Rattle.std.specs.List.{position_or_len}
use Rattle.agg_types.specs.declared.column.Col.{Col}
use Rattle.agg_types.specs.declared.column.Col.TheVariants.{Gpc0, Gpc0Rate, ConnCnt, ConnRate}
use Rattle.agg_types.specs.declared.column.Col.TheVariants.{ConnCur, SessCnt, SessRate, HttpReqCnt}
use Rattle.agg_types.specs.declared.column.Col.TheVariants.{HttpReqRate, HttpErrCnt, HttpErrRate}
use Rattle.agg_types.specs.declared.column.Col.TheVariants.{BytesInCnt, BytesInRate, BytesOutCnt}
use Rattle.agg_types.specs.declared.column.Col.TheVariants.{BytesOutRate, Gpc1, Gpc1Rate}
use Rattle.agg_types.specs.declared.column.Col.TheVariants.{HttpFailCnt, HttpFailRate, GlitchCnt}
use Rattle.agg_types.specs.declared.column.Col.TheVariants.{GlitchRate}
use Rattle.agg_types.specs.declared.column.ColKind.{ColKind}
use Rattle.agg_types.specs.declared.column.ColKind.TheVariants.{Count, WideCount, Rate}

-- what names a column and tells its values
pub record Info : Type 0 where
  pub id : ℕ
  pub name : List ℕ
  pub kind : ColKind

-- the columns: the number of the data type in the peers protocol, the name that HAProxy gives it,
-- and the kind of its values
abbrev pub info : Col → Info
info Gpc0 = record { id = 2; name = codes "gpc0"; kind = Count }
info Gpc0Rate = record { id = 3; name = codes "gpc0_rate"; kind = Rate }
info ConnCnt = record { id = 4; name = codes "conn_cnt"; kind = Count }
info ConnRate = record { id = 5; name = codes "conn_rate"; kind = Rate }
info ConnCur = record { id = 6; name = codes "conn_cur"; kind = Count }
info SessCnt = record { id = 7; name = codes "sess_cnt"; kind = Count }
info SessRate = record { id = 8; name = codes "sess_rate"; kind = Rate }
info HttpReqCnt = record { id = 9; name = codes "http_req_cnt"; kind = Count }
info HttpReqRate = record { id = 10; name = codes "http_req_rate"; kind = Rate }
info HttpErrCnt = record { id = 11; name = codes "http_err_cnt"; kind = Count }
info HttpErrRate = record { id = 12; name = codes "http_err_rate"; kind = Rate }
info BytesInCnt = record { id = 13; name = codes "bytes_in_cnt"; kind = WideCount }
info BytesInRate = record { id = 14; name = codes "bytes_in_rate"; kind = Rate }
info BytesOutCnt = record { id = 15; name = codes "bytes_out_cnt"; kind = WideCount }
info BytesOutRate = record { id = 16; name = codes "bytes_out_rate"; kind = Rate }
info Gpc1 = record { id = 17; name = codes "gpc1"; kind = Count }
info Gpc1Rate = record { id = 18; name = codes "gpc1_rate"; kind = Rate }
info HttpFailCnt = record { id = 20; name = codes "http_fail_cnt"; kind = Count }
info HttpFailRate = record { id = 21; name = codes "http_fail_rate"; kind = Rate }
info GlitchCnt = record { id = 25; name = codes "glitch_cnt"; kind = Count }
info GlitchRate = record { id = 26; name = codes "glitch_rate"; kind = Rate }

-- the number of a column's data type in the peers protocol
abbrev pub col_id : Col → ℕ
col_id col = (info col).id

-- the name that HAProxy gives a column
abbrev pub col_name : Col → List ℕ
col_name col = (info col).name

-- whether values are rates over a period
abbrev pub is_rate_kind : ColKind → Bool
is_rate_kind Rate = true
is_rate_kind WideCount = false
is_rate_kind Count = false

-- whether a column is a rate over a period
abbrev pub is_rate : Col → Bool
is_rate col = is_rate_kind (info col).kind

-- whether values are counts of 64 bits
abbrev pub is_wide_kind : ColKind → Bool
is_wide_kind WideCount = true
is_wide_kind Count = false
is_wide_kind Rate = false

-- whether a column's count has 64 bits
abbrev pub is_wide : Col → Bool
is_wide col = is_wide_kind (info col).kind

-- whether two columns are one
abbrev pub same_col : Col → Col → Bool
same_col a b = col_id a == col_id b

-- every column, in order
abbrev pub all_cols : List Col
all_cols = Gpc0 ∷ Gpc0Rate ∷ ConnCnt ∷ ConnRate ∷ ConnCur ∷ SessCnt ∷ SessRate ∷ HttpReqCnt ∷
    HttpReqRate ∷ HttpErrCnt ∷ HttpErrRate ∷ BytesInCnt ∷ BytesInRate ∷ BytesOutCnt ∷
    BytesOutRate ∷ Gpc1 ∷ Gpc1Rate ∷ HttpFailCnt ∷ HttpFailRate ∷ GlitchCnt ∷ GlitchRate ∷ []

-- where a column stands among all
abbrev pub place : Col → ℕ
place col = position_or_len (same_col col) all_cols
