-- A cut of all code points.
use Rattle.std.proofs.Common.{◌≡◌, ℕ, List, subst}
use Rattle.ucd_points.specs.Bounds.{Bounds}
use Rattle.ucd_model.specs.Cuts.{IsCut}
use Rattle.ucd_points.specs.Limits.{point_count}
use Rattle.ucd_model.specs.Records.{Record}

pub cut_whole : (R : ℕ → Record) (n : ℕ) (pieces : List Bounds) → n ≡ 1114112 → IsCut R 0 n pieces → IsCut R 0 point_count pieces
unfolding point_count
cut_whole R n pieces all cut = subst (λ (k : ℕ). IsCut R 0 k pieces) all cut
