-- What opening returns, and a record of zeros.
use Rattle.std.specs.Prelude.{[], ◌∷◌, replicate, None, Result, Ok, Err}
use Rattle.layout.specs.Records.{no_channel}
use Rattle.layout.specs.Refusals.{block_limit}
use Rattle.layout.specs.Answers.{number_of}
use Rattle.layout.specs.declared.refusal.Refusal.{Refusal}
use Rattle.reader.specs.declared.HpsReader.{HpsReader}
use Rattle.reader.specs.OpeningAndReading.{Opened}

-- What opening's result says: the record, or the refusal's number.
abbrev pub opened_says : Result HpsReader Refusal → Opened
opened_says (Ok r) = Opened.opened r
opened_says (Err e) = Opened.refused (number_of e)

-- A record of zeros.
abbrev pub no_reader : HpsReader
no_reader =
    record { rate = 0; count = 0; channels = no_channel ∷ no_channel ∷ []; blocks = 0; offsets = replicate block_limit 0; loop_start = None }
