use mathlib.Core.Path.{ap, ◌∙◌}
use Rattle.layout.specs.Puts.{put_at}
use Rattle.layout_put_block.proofs.FillLaws.{fillers_flat}
use Rattle.layout_put_block.proofs.put_fillers.Goals as goal

pub returns : goal.returns
returns c = c.put_bytes.ensures ∙ ap (put_at _ _) (c.as_flattened.ensures.value ∙ fillers_flat _)
