use Rattle.std.proofs.Common.{List, ℕ, Some, sym, ap, ◌∙◌, option_map, bytes_eq}
use Rattle.std.proofs.lemmas.Option.{slice_get-map}
use Rattle.std.proofs.lemmas.Slice.Eq.{bytes_eq-Decides}
use Rattle.property_aliases.proofs.file_values.has_number.Goals as goal

pub returns-in-Some : goal.returns-in-Some
returns-in-Some c = λ same.
    slice_get-map (λ k. k.items) c.args.names.now.keys c.args.number ∙ ap (option_map (λ k. k.items)) (sym c.in-Some.ensures.key)
    ∙ ap Some ((bytes_eq-Decides c.in-Some.name.now.items c.args.value.now).0 (ap (λ (name : List ℕ). bytes_eq name c.args.value.now) (sym c.as_slice.ensures.value) ∙ sym c.eq.ensures ∙ same))
