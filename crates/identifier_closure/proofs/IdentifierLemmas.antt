-- What the Normalisation Form KC of a point says of its identifiers.
use Rattle.std.proofs.Common.{◌≡◌, ℕ, Bool, ◌&&◌, List, [], ◌∷◌, Ok, ap, ◌∙◌}
use Rattle.ucd_points.specs.PlainProofs.{and_self}
use Rattle.ucd_model.specs.Casing.{where_form}
use Rattle.ucd_facts.specs.Facts.{Facts}
use Rattle.ucd_model.specs.Forms.{nfkc}
use Rattle.ucd_model.specs.Identifiers.{starts, continues, xid_start, xid_continue}
use Rattle.ucd_facts.specs.Predicates.{id_start, id_continue}

pub form_is : (F : ℕ → Facts) (c : ℕ) (p : List ℕ → Bool) (s : List ℕ) → nfkc F (c ∷ []) ≡ Ok s → where_form p (nfkc F (c ∷ [])) ≡ p s
form_is F c p s e = ap (where_form p) e

pub start_alone : (F : ℕ → Facts) (c : ℕ) → nfkc F (c ∷ []) ≡ Ok (c ∷ []) → xid_start F c ≡ id_start (F c)
start_alone F c e = ap (λ r. id_start (F c) && where_form (starts F) r) e ∙ and_self (id_start (F c))

pub continue_alone : (F : ℕ → Facts) (c : ℕ) → nfkc F (c ∷ []) ≡ Ok (c ∷ []) → xid_continue F c ≡ id_continue (F c)
continue_alone F c e = ap (λ r. id_continue (F c) && where_form (continues F) r) e ∙ and_self (id_continue (F c))
