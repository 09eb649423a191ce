-- The keywords that compaction asks for and writes (JSON-LD 1.1, section 1.7).
use Rattle.std.specs.Prelude.{List, ℕ, codes}
use Rattle.def_contexts.specs.Keywords.{is_keyword}
use Rattle.def_contexts.specs.Texts.{is_absolute}

unfoldable pub at_any : List ℕ
at_any = codes "@any"

unfoldable pub at_context : List ℕ
at_context = codes "@context"

unfoldable pub at_graph : List ℕ
at_graph = codes "@graph"

unfoldable pub at_id : List ℕ
at_id = codes "@id"

unfoldable pub at_language : List ℕ
at_language = codes "@language"

unfoldable pub at_list : List ℕ
at_list = codes "@list"

unfoldable pub at_none : List ℕ
at_none = codes "@none"

unfoldable pub at_null : List ℕ
at_null = codes "@null"

unfoldable pub at_reverse : List ℕ
at_reverse = codes "@reverse"

unfoldable pub at_type : List ℕ
at_type = codes "@type"

unfoldable pub at_value : List ℕ
at_value = codes "@value"

unfoldable pub at_version : List ℕ
at_version = codes "@version"

unfoldable pub at_vocab : List ℕ
at_vocab = codes "@vocab"

-- a proof that unfolds this computes chosen terms and compacted IRIs
unfoldable pub selection_open : Unit {0}
unfolding at_any at_context at_graph at_id at_language at_list at_none at_null at_reverse at_type
    at_value at_version at_vocab is_keyword is_absolute
selection_open = tt
