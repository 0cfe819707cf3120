-- A model read off a page: document 02, "The watch page", "and the model can be read off it again".
-- Ask: Is 27 about every byte of the first 80 × p?
use Rattle.std.specs.Prelude.{ℕ, ◌+◌, ◌*◌, ◌/◌, ◌%◌, Bool, List, eqb, get_or, take}
use Rattle.words.specs.Sets.{word_of}
use Rattle.words.specs.Sameness.{same}
use Rattle.page.specs.Page.{page_of}

-- where bit v has its mark, with s watches: in the line of pilot v / s, after the number's three columns and a space for watch v % s
abbrev pub mark_place : ℕ → ℕ → ℕ
mark_place s v = 80 * (v / s) + (4 + 2 * (v % s))

-- what the marks say: of n variables those whose mark is `#`
unfoldable pub marked : ℕ → ℕ → List ℕ → ℕ
marked n s page = word_of (λ v. eqb (get_or page (mark_place s v) 0) 35) n

-- the first 80 × p bytes are a page of this form: that of what their marks say
unfoldable pub is_page : ℕ → ℕ → ℕ → List ℕ → Bool
unfolding page_of marked same
is_page n p s page = same (take (80 * p) page) (page_of p s (marked n s page))
