-- The quick checks, of decompositions and of what is composed of them. UAX #15, section 9.
--
-- F is the facts of each code point, and `compat` says whether compatibility mappings count.
-- quick_decomposed kind compat    No where a mapping of this kind counts, else Yes
-- decomposed_check F compat c     the quick check of the decomposition, or the rule for which c alone has none
-- composed_check F compat c       the quick check of the composed decomposition, or that rule
use Rattle.std.specs.Prelude.{ℕ, Bool, [], ◌∷◌, Result, if◌then◌else◌}
use Rattle.ucd_facts.specs.Facts.{Facts}
use Rattle.ucd_facts.specs.declared.decomposition.Kind.{Kind}
use Rattle.ucd_facts.specs.Expansion.{counts}
use Rattle.ucd_model.specs.Forms.{decomposed, composed}
use Rattle.ucd_model.specs.QuickChecks.{quick_composed, quick_where}
use Rattle.ucd_facts.specs.declared.form.Bad.{Bad as Rule}
use Rattle.ucd_facts.specs.declared.form.Quick.{Quick}
use Rattle.ucd_facts.specs.declared.form.Quick.TheVariants.{Yes, No}

abbrev pub quick_decomposed : Kind → Bool → Quick
quick_decomposed kind compat = if counts compat kind then No else Yes

abbrev pub decomposed_check : (ℕ → Facts) → Bool → ℕ → Result Quick Rule
decomposed_check F compat c = quick_where (λ s. quick_decomposed (F c).kind compat) (decomposed F compat (c ∷ []))

abbrev pub composed_check : (ℕ → Facts) → Bool → ℕ → Result Quick Rule
composed_check F compat c = quick_where (quick_composed F c) (composed F (decomposed F compat (c ∷ [])))
