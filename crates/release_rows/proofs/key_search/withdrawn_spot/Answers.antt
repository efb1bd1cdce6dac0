use Rattle.std.proofs.Common.{◌≡◌, false, true, is_some, [], None, refl, sym, ap, ◌∙◌}
use Rattle.source_rows.specs.KeyNames.{has_code}
use Rattle.release_rows.specs.Searches.{Sought}
use Rattle.release_rows.specs.Tags.{key_tag}
use Rattle.release_rows.specs.declared.search.Test.TheVariants.{SameKey}
use Rattle.release_rows.proofs.SeekingKeys.{IsSoughtKey, key_first, key_holds, key_of_none, are_same, are_apart}
use Rattle.release_rows.proofs.key_search.withdrawn_spot.Goals as goal

pub returns-then-is_some-has_code : goal.returns-then-is_some-has_code
returns-then-is_some-has_code c =
    let apart : is_some c.args.key.now.code ≡ has_code c.args.file → false ≡ true = λ same. are_apart c.is_some.result c.has_code.result c.if-is_some-has_code.true (c.is_some.ensures ∙ same ∙ sym c.has_code.ensures) in
    (refl, key_of_none c.args.file c.args.text.now c.args.key.now c.args.items.now.next c.contents_have_keys.ensures c.requires.each apart)

pub returns-in-Some : goal.returns-in-Some
returns-in-Some c =
    let same : is_some c.args.key.now.code ≡ has_code c.args.file = sym c.is_some.ensures ∙ are_same c.is_some.result c.has_code.result c.if-is_some-has_code.false ∙ c.has_code.ensures in
    let s : Sought = record { test = SameKey; file = c.args.file; text = c.args.text.now; code = c.code_or_zero-code.result; last = c.code_or_zero-code.result; names = c.as_slice-names.result.now; group = []; tag = c.key_tag.result; missing = false } in
    let is : IsSoughtKey c.args.file c.args.key.now c.args.text.now s = record { test_is = refl; file_is = refl; text_is = refl; code = c.code_or_zero-code.ensures; names = c.as_slice-names.ensures; tag = c.key_tag.ensures ∙ ap (key_tag c.args.file) c.as_slice-names.ensures } in
    key_first c.args.file c.args.text.now c.args.key.now c.args.items.now.next c.contents_have_keys.ensures c.requires.each s c.in-Some.spot same is c.in-Some.ensures

pub returns-in-None : goal.returns-in-None
returns-in-None c =
    let same : is_some c.args.key.now.code ≡ has_code c.args.file = sym c.is_some.ensures ∙ are_same c.is_some.result c.has_code.result c.if-is_some-has_code.false ∙ c.has_code.ensures in
    let s : Sought = record { test = SameKey; file = c.args.file; text = c.args.text.now; code = c.code_or_zero-code.result; last = c.code_or_zero-code.result; names = c.as_slice-names.result.now; group = []; tag = c.key_tag.result; missing = false } in
    let is : IsSoughtKey c.args.file c.args.key.now c.args.text.now s = record { test_is = refl; file_is = refl; text_is = refl; code = c.code_or_zero-code.ensures; names = c.as_slice-names.ensures; tag = c.key_tag.ensures ∙ ap (key_tag c.args.file) c.as_slice-names.ensures } in
    (refl, key_holds c.args.file c.args.text.now c.args.key.now c.args.items.now.next c.contents_have_keys.ensures c.requires.each s None same is c.in-None.ensures)
