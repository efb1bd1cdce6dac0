-- How what is kept beside a word is held.
--
-- rest_of form   what is kept
use Rattle.std.specs.Box.{box_value}
use Rattle.fact_tables.specs.Rest.{RestOf, no_rest, bare_rest, rest_of_all}
use Rattle.fact_tables.specs.declared.packed_mappings.RestForm.{RestForm}
use Rattle.fact_tables.specs.declared.packed_mappings.RestForm.TheVariants.{Empty, One, Two, All}

abbrev pub rest_of : RestForm → RestOf
rest_of Empty = no_rest
rest_of (One mapping) = bare_rest mapping
rest_of (Two mapping) = bare_rest mapping
rest_of (All all) = rest_of_all (box_value all)
