-- The lines that the definitions give at small numbers, worked out by hand.
use Rattle.std.proofs.Common.{◌≡◌, [], ◌++◌, refl, codes}
use Rattle.ucd_points.specs.HexText.{hex_text}
use Rattle.ucd_points.specs.declared.files.SourceFile.TheVariants.{PropList, PropertyValueAliases}
use Rattle.release_maker.specs.MadeTexts.{base_line, composite_line, compat_line, command_line, series, data_text, source_text}

line_examples : (base_line 0 ≡ codes "20000;BASE;Lo;0;L;;;;;N;;;;;")
    × (composite_line 10 ≡ codes "3000A;COMPOSITE;Lo;0;L;2000A 0300;;;;N;;;;;")
    × (compat_line 49999 ≡ codes "4C34F;COMPAT;Lo;0;L;<compat> 2C34F 0300;;;;N;;;;;")
    × (command_line 999 ≡ codes "add CaseFolding.txt 303E7; C; 203E7")
unfolding hex_text
line_examples = (refl, refl, refl, refl)

data_example : data_text 2 ≡ codes "0300;MARK;Mn;230;NSM;;;;;N;;;;;\n" ++ codes "20000;BASE;Lo;0;L;;;;;N;;;;;\n20001;BASE;Lo;0;L;;;;;N;;;;;\n" ++ codes "30000;COMPOSITE;Lo;0;L;20000 0300;;;;N;;;;;\n30001;COMPOSITE;Lo;0;L;20001 0300;;;;N;;;;;\n" ++ codes "40000;COMPAT;Lo;0;L;<compat> 20000 0300;;;;N;;;;;\n40001;COMPAT;Lo;0;L;<compat> 20001 0300;;;;N;;;;;\n"
unfolding series hex_text
data_example = refl

script_example : series command_line 2 ≡ codes "add CaseFolding.txt 30000; C; 20000\nadd CaseFolding.txt 30001; C; 20001\n"
unfolding series hex_text
script_example = refl

empty_examples : (source_text 1 PropList ≡ []) × (source_text 50 PropertyValueAliases ≡ [])
empty_examples = (refl, refl)
