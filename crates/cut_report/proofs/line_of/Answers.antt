use Rattle.std.proofs.Common.{rules}
use Rattle.cut_report.proofs.ThreeLaws.{line-there}
use Rattle.cut_report.proofs.line_of.Goals as goal

pub returns : goal.returns
returns c =
    line-there c.args.word.now c.args.columns.now (search rules) c.requires (search rules) c.put_line-length.ensures
