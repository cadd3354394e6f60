-- The classes and types of messages, and the limits of what is read.
use Rattle.std.specs.Prelude.{ℕ}

-- resync messages and heartbeats
abbrev pub control_class : ℕ
control_class = 0

abbrev pub error_class : ℕ
error_class = 1

-- a stick table's messages
abbrev pub table_class : ℕ
table_class = 10

-- types of the control class
abbrev pub resync_request : ℕ
resync_request = 0

abbrev pub resync_finished : ℕ
resync_finished = 1

abbrev pub resync_partial : ℕ
resync_partial = 2

abbrev pub resync_confirm : ℕ
resync_confirm = 3

abbrev pub heartbeat : ℕ
heartbeat = 4

-- types of the error class
abbrev pub protocol_error : ℕ
protocol_error = 0

abbrev pub size_error : ℕ
size_error = 1

-- types of the table class
abbrev pub update : ℕ
update = 128

abbrev pub incremental_update : ℕ
incremental_update = 129

abbrev pub table_definition : ℕ
table_definition = 130

abbrev pub table_switch : ℕ
table_switch = 131

abbrev pub acknowledgement : ℕ
acknowledgement = 132

abbrev pub timed_update : ℕ
timed_update = 133

abbrev pub timed_incremental_update : ℕ
timed_incremental_update = 134

-- the least type whose messages have a payload
abbrev pub first_with_payload : ℕ
first_with_payload = 128

-- the longest head of a message: class, type, and an encoded length
abbrev pub longest_head : ℕ
longest_head = 12
