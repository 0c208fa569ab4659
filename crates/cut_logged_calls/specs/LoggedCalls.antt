-- Calls of a loading into a slot of at most 65,536 bytes, whose writes are logged.
use Rattle.std.specs.Prelude.{ℕ, suc, ◌+◌, ◌≤◌, min, ◌≡◌, false, List, length, replicate}
use Rattle.layout.specs.Records.{file_header_size}
use Rattle.writer.specs.Calls.{Outcome, Reply, reply_says, places_in}
use Rattle.writer.specs.declared.HpsWriter.{HpsWriter}
use Rattle.cut_write_log.specs.WriteLog.{Logging, log_all, Listed}
use Rattle.cut_write_log.specs.declared.WriteLog.{WriteLog}
use Rattle.cut_logged_calls.specs.declared.Made.{Made}
use Rattle.layout.specs.Refusals.{key_limit}

-- "(the length of the lent buffer for the calls after it; long enough for any call unless set)": 65,536 bytes are long enough for a slot of as many
abbrev pub long_lent : ℕ
long_lent = key_limit

-- Room for the bytes of all writes of a loading: a slot's, and a header's for begin's byte.
abbrev pub log_size : ℕ
log_size = key_limit + file_header_size

-- The lent buffer of a call.
abbrev pub lent_of : (lent : ℕ) → List ℕ
lent_of n = replicate (min n long_lent) 0

-- The log after a call: its writes are logged after the others, with their bytes from the lent buffer; a refused call's are none.
unfoldable pub log_after : Outcome → Logging → Logging
log_after o g = log_all g o.lent 0 (places_in o.reply)

-- What a call leaves: its record and reply, and the log after it.
pub record Left : Type 0 where
  pub writer : HpsWriter
  pub reply : Reply
  pub log : WriteLog

-- The same of an outcome, and of what the code returns.
abbrev pub made_by : Outcome → Logging → Left
made_by o g = record { writer = o.writer; reply = o.reply; log = (log_after o g).log }

abbrev pub made_says : Made → Left
made_says m = record { writer = m.writer; reply = reply_says m.answer; log = m.log }

-- What is logged by the writer's record: before the finish begin's write and each block's, so that there is room for all that may come.
pub record Tally (j : WriteLog) (w : HpsWriter) (logged : List ℕ) : Type 0 where
  pub listed : Listed j logged
  pub room : log_size ≤ length logged
  pub small : w.setup.slot ≤ key_limit
  pub many : w.finished ≡ false → j.count ≡ suc w.stream.blocks
  pub bytes : w.finished ≡ false → j.total + 127 ≡ w.stream.offset
