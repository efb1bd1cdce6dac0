use Rattle.std.proofs.Common.{is_some, ap, rules}
use Rattle.ucd_model.specs.DerivedFiles.{casefold_listing}
use Rattle.ucd_model.specs.Records.{Record}
use Rattle.edit_session.specs.Benches.{bench_record}
use Rattle.ucdshop_core.proofs.making.count_casefolds.Goals as goal

pub returns : goal.returns
returns c =
    c.count_passing.ensures (λ d. is_some (casefold_listing.label (bench_record c.args.bench.now d)))
    (λ lo told lt by. (by.1.0, λ k low high. ap (λ (r : Record). is_some (casefold_listing.label r)) (by.1.1 k low high)))
    (λ d given lt by. search rules)
