-- Built-in names, in order. UAX #44, sections 5.1, 5.7 and 5.8; they are those of PropertyAliases.txt and
-- PropertyValueAliases.txt.
-- built_in_names        the two names of each property that is built in, the long one first, in the order of Property
-- category_names        the two letters of the categories, then the groups
-- decomposition_names   none, canonical, and the tags without brackets
-- quick_names           two names of each value of a quick check: Yes, No, Maybe
-- truth_names           four names of each value of a property that code points have or have not: Yes, No
use Rattle.std.specs.Prelude.{ℕ, List, [], ◌∷◌, codes}

abbrev pub built_in_names : List (List ℕ)
built_in_names =
    codes "General_Category" ∷ codes "gc"
    ∷ codes "Script" ∷ codes "sc"
    ∷ codes "Canonical_Combining_Class" ∷ codes "ccc"
    ∷ codes "Decomposition_Type" ∷ codes "dt"
    ∷ codes "Word_Break" ∷ codes "WB"
    ∷ codes "NFD_Quick_Check" ∷ codes "NFD_QC"
    ∷ codes "NFC_Quick_Check" ∷ codes "NFC_QC"
    ∷ codes "NFKD_Quick_Check" ∷ codes "NFKD_QC"
    ∷ codes "NFKC_Quick_Check" ∷ codes "NFKC_QC"
    ∷ codes "Math" ∷ codes "Math"
    ∷ codes "Alphabetic" ∷ codes "Alpha"
    ∷ codes "Lowercase" ∷ codes "Lower"
    ∷ codes "Uppercase" ∷ codes "Upper"
    ∷ codes "Cased" ∷ codes "Cased"
    ∷ codes "Case_Ignorable" ∷ codes "CI"
    ∷ codes "Changes_When_Lowercased" ∷ codes "CWL"
    ∷ codes "Changes_When_Uppercased" ∷ codes "CWU"
    ∷ codes "Changes_When_Titlecased" ∷ codes "CWT"
    ∷ codes "Changes_When_Casefolded" ∷ codes "CWCF"
    ∷ codes "Changes_When_Casemapped" ∷ codes "CWCM"
    ∷ codes "ID_Start" ∷ codes "IDS"
    ∷ codes "ID_Continue" ∷ codes "IDC"
    ∷ codes "XID_Start" ∷ codes "XIDS"
    ∷ codes "XID_Continue" ∷ codes "XIDC"
    ∷ codes "Default_Ignorable_Code_Point" ∷ codes "DI"
    ∷ codes "Grapheme_Extend" ∷ codes "Gr_Ext"
    ∷ codes "Grapheme_Base" ∷ codes "Gr_Base"
    ∷ codes "Grapheme_Link" ∷ codes "Gr_Link"
    ∷ codes "Full_Composition_Exclusion" ∷ codes "Comp_Ex"
    ∷ codes "Changes_When_NFKC_Casefolded" ∷ codes "CWKCF" ∷ []

abbrev pub category_names : List (List ℕ)
category_names =
    codes "Lu" ∷ codes "Ll" ∷ codes "Lt" ∷ codes "Lm" ∷ codes "Lo" ∷ codes "Mn" ∷ codes "Mc" ∷ codes "Me"
    ∷ codes "Nd" ∷ codes "Nl" ∷ codes "No" ∷ codes "Pc" ∷ codes "Pd" ∷ codes "Ps" ∷ codes "Pe" ∷ codes "Pi"
    ∷ codes "Pf" ∷ codes "Po" ∷ codes "Sm" ∷ codes "Sc" ∷ codes "Sk" ∷ codes "So" ∷ codes "Zs" ∷ codes "Zl"
    ∷ codes "Zp" ∷ codes "Cc" ∷ codes "Cf" ∷ codes "Cs" ∷ codes "Co" ∷ codes "Cn" ∷ codes "L" ∷ codes "LC"
    ∷ codes "M" ∷ codes "N" ∷ codes "P" ∷ codes "S" ∷ codes "Z" ∷ codes "C" ∷ []

abbrev pub decomposition_names : List (List ℕ)
decomposition_names =
    codes "none" ∷ codes "canonical" ∷ codes "font" ∷ codes "noBreak" ∷ codes "initial" ∷ codes "medial"
    ∷ codes "final" ∷ codes "isolated" ∷ codes "circle" ∷ codes "super" ∷ codes "sub" ∷ codes "vertical"
    ∷ codes "wide" ∷ codes "narrow" ∷ codes "small" ∷ codes "square" ∷ codes "fraction" ∷ codes "compat" ∷ []

abbrev pub quick_names : List (List ℕ)
quick_names =
    codes "Y" ∷ codes "Yes" ∷ codes "N" ∷ codes "No" ∷ codes "M" ∷ codes "Maybe" ∷ []

abbrev pub truth_names : List (List ℕ)
truth_names =
    codes "Y" ∷ codes "Yes" ∷ codes "T" ∷ codes "True" ∷ codes "N" ∷ codes "No" ∷ codes "F" ∷ codes "False" ∷ []
