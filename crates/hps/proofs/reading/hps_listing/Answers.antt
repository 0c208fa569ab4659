use Rattle.hps.proofs.ExportedLaws.{listed-long, listed-put}
use borrow.Author.Rules.{rules}
use Rattle.hps.proofs.reading.hps_listing.Goals as goal

pub start_listing-start-requires : goal.start_listing-start-requires
start_listing-start-requires c = tt

pub fill-filled-requires : goal.fill-filled-requires
fill-filled-requires c = c.start_listing-start.ensures.readable

pub returns : goal.returns
returns c = record {
  value = search (listed-long, rules);
  out_after = search (listed-put, rules);
}
