use Rattle.layout.specs.Records.{be32}
use Rattle.layout_put.proofs.put_words.Goals as goal

pub returns : goal.returns
unfolding be32
returns c = rw (c.as_flattened.ensures.value, c.to_be_bytes.ensures, c.to_be_bytes-2.ensures, c.to_be_bytes-3.ensures) at c.put_bytes.ensures
