-- What the reads answer: from each case, the refusal's number or the value that was read.
use Rattle.std.specs.Prelude.{ℕ, Result, Ok, Err}
use Rattle.layout.specs.Records.{Read}
use Rattle.layout.specs.declared.refusal.Refusal.{Refusal}
use Rattle.layout.specs.declared.refusal.Refusal.TheVariants.{SlotEndsEarly, WrongMagic, WrongChannelCount, UnknownFormat, TooManyBlocks, NoSuchChannel}
use Rattle.layout.specs.declared.refusal.Refusal.TheVariants.{WrongSlotLength, BadCue, RateZero, TooShort, WrongDataLength, LengthsDiffer, TooLarge}
use Rattle.layout.specs.declared.refusal.Refusal.TheVariants.{LentTooShort, RatesDiffer, CueTableFull, AlreadyPushed, RateChanged, CoefficientsChanged}
use Rattle.layout.specs.declared.refusal.Refusal.TheVariants.{PastSlotEnd, NoMoreBlocks, AfterLast, NoBlock, NotLast, OtherChannelCount}
use Rattle.layout.specs.declared.refusal.Refusal.TheVariants.{NotAdpcm, LevelTooHigh, NotServed, NotHeld}

-- ---- The number of a refusal

abbrev pub number_of : Refusal → ℕ
-- "1 slot ends early; 2 first 8 bytes wrong; 3 channel count not 1 or 2; 4 format unknown; 5 over 512 blocks; 6 channel not below the count"
number_of SlotEndsEarly = 1
number_of WrongMagic = 2
number_of WrongChannelCount = 3
number_of UnknownFormat = 4
number_of TooManyBlocks = 5
number_of NoSuchChannel = 6
-- "7 slot over 16,777,216 bytes, or under 192 at begin; 8 start over 2,147,483,647 or range length 0; 9 rate 0 in a push"
number_of WrongSlotLength = 7
number_of BadCue = 8
number_of RateZero = 9
-- "10 length 0 or 1; 11 data not as long as the bytes for its length; 12 channel lengths differ; 13 over 65,536 bytes (mono) or 32,768 per channel (stereo)"
number_of TooShort = 10
number_of WrongDataLength = 11
number_of LengthsDiffer = 12
number_of TooLarge = 13
-- "14 lent buffer shorter than what is handed out; 15 channel rates differ"
number_of LentTooShort = 14
number_of RatesDiffer = 15
-- "20 table holds 128 cues; 21 a push was accepted; 22 rate, 23 coefficients other than the first block's; 24 block passes the slot's end; 25 512 blocks pushed"
number_of CueTableFull = 20
number_of AlreadyPushed = 21
number_of RateChanged = 22
number_of CoefficientsChanged = 23
number_of PastSlotEnd = 24
number_of NoMoreBlocks = 25
-- "26 push after the last block, or finish after finish; 27 finish with no block; 28 finish before the last block; 29 push of another channel count"
number_of AfterLast = 26
number_of NoBlock = 27
number_of NotLast = 28
number_of OtherChannelCount = 29
-- "refuses with 30 when the channel isn't ADPCM", "31 a level above 1,023", "32 a take not served", "33 the return of a frame that the caller doesn't hold" (document 02)
number_of NotAdpcm = 30
number_of LevelTooHigh = 31
number_of NotServed = 32
number_of NotHeld = 33

-- ---- What is answered

-- A read's answer: the value, or the refusal's number.
abbrev pub says : {A : Type 0} → Result A Refusal → Read A
says (Ok a) = Read.value a
says (Err r) = Read.refused (number_of r)

-- "A call gets the first number due in its order": that number, 0 where none is due.
abbrev pub due_number : {A : Type 0} → Result A Refusal → ℕ
due_number (Ok a) = 0
due_number (Err r) = number_of r

-- The value of a read, or this where it is refused.
abbrev pub value_or : {A : Type 0} → A → Read A → A
value_or none (Read.refused n) = none
value_or none (Read.value a) = a
