-- Facts that are shown without a mapping. UAX #44, sections 5.6 and 5.7.
--
-- IsOwnImage c shown  each simple image of the shown facts is c; ShowsNoImage shown: none of their images is shown
use Rattle.std.specs.Prelude.{◌≡◌, ℕ, None}
use Rattle.ucd_facts.specs.declared.view.FactsRef.{FactsRef}

pub record IsOwnImage (c : ℕ) (shown : FactsRef) : Type 0 where
  pub upper : shown.simple_upper ≡ c
  pub lower : shown.simple_lower ≡ c
  pub title : shown.simple_title ≡ c
  pub fold : shown.simple_fold ≡ c

pub record ShowsNoImage (shown : FactsRef) : Type 0 where
  pub upper : shown.upper ≡ None
  pub lower : shown.lower ≡ None
  pub title : shown.title ≡ None
  pub fold : shown.fold ≡ None
