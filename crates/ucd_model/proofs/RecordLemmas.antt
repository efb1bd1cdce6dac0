-- Records that are kept.
use Rattle.std.proofs.Common.{◌≡◌}
use Rattle.ucd_model.specs.declared.records.Record.{Record as KeptRecord}

-- two kept records with the same fields are one
pub same_fields : (a b : KeptRecord) → a.category ≡ b.category → a.class ≡ b.class → a.kind ≡ b.kind → a.core ≡ b.core → a.exclusion ≡ b.exclusion
    → a.nfd ≡ b.nfd → a.nfc ≡ b.nfc → a.nfkd ≡ b.nfkd → a.nfkc ≡ b.nfkc → a.casefold ≡ b.casefold → a.simple_casefold ≡ b.simple_casefold → a.changes_casefold ≡ b.changes_casefold → a ≡ b
same_fields a b category class kind core exclusion nfd nfc nfkd nfkc casefold simple changes = λ i. record {
  category = category i;
  class = class i;
  kind = kind i;
  core = core i;
  exclusion = exclusion i;
  nfd = nfd i;
  nfc = nfc i;
  nfkd = nfkd i;
  nfkc = nfkc i;
  casefold = casefold i;
  simple_casefold = simple i;
  changes_casefold = changes i;
}
