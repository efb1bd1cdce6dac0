-- What is kept beside two words is the same if it is so mapping by mapping.
use Rattle.std.proofs.Common.{◌≡◌}
use Rattle.fact_tables.specs.Rest.{RestOf}
use Rattle.fact_tables.specs.declared.cases.Cases.{Cases}

pub cases_alike : (a b : Cases) → a.common ≡ b.common → a.full ≡ b.full → a.simple ≡ b.simple → a.lower ≡ b.lower → a.title ≡ b.title → a.upper ≡ b.upper → a ≡ b
cases_alike a b common full simple lower title upper = λ i. record {
  common = common i;
  full = full i;
  simple = simple i;
  lower = lower i;
  title = title i;
  upper = upper i;
}

pub rests_alike : (a b : RestOf) → a.mapping ≡ b.mapping → a.upper ≡ b.upper → a.lower ≡ b.lower → a.title ≡ b.title
    → a.cases.common ≡ b.cases.common → a.cases.full ≡ b.cases.full → a.cases.simple ≡ b.cases.simple → a.cases.lower ≡ b.cases.lower → a.cases.title ≡ b.cases.title → a.cases.upper ≡ b.cases.upper → a ≡ b
rests_alike a b mapping upper lower title common full simple full_lower full_title full_upper = λ i. record {
  mapping = mapping i;
  upper = upper i;
  lower = lower i;
  title = title i;
  cases = cases_alike a.cases b.cases common full simple full_lower full_title full_upper i;
}
