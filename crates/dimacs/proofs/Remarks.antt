-- A text's table by the places in the text as it is: the header has the same sizes and the clauses the same rows as without the remark lines.
use mathlib.Core.Path.{◌≡◌, refl, ap, ap₂, ◌∙◌}
use mathlib.Core.Bool.{Bool, ◌&&◌, cond}
use mathlib.Core.List.{List}
use Prim.Native.Nat.{ℕ}
use lib.Dec.{eqb}
use lib.ListN.{length, drop}
use Rattle.std.specs.Prelude.{Result, Ok, Err}
use Rattle.refusals.specs.declared.Refusal.{Refusal}
use Rattle.lexer.specs.Bytes.{is_separator}
use Rattle.lexer.specs.Remarks.{without_remarks}
use Rattle.lexer.specs.Pieces.{Piece, cut, not_empty, parts_from, tokens_from}
use Rattle.lexer.specs.Blanks.{tokens_past}
use Rattle.lexer.proofs.Kept.{bytes_of, same_tokens}
use Rattle.refusals.specs.declared.Refusal.TheVariants.{Text}
use Rattle.words.specs.declared.Row.{Row}
use Rattle.header.specs.Header.{header_of}
use Rattle.header.proofs.Kept.{header_same}
use Rattle.clauses.specs.Clauses.{clauses}
use Rattle.clauses.specs.First.{clauses_from}
use Rattle.clauses.proofs.Unplaced.{rows_same, complete-same}
use Rattle.dimacs.specs.Text.{TextTable, refused, accepted_table, body_of, from_header, plain_table}

-- what a header leads to, its clauses read in the text as it is
abbrev pub standing : List ℕ → ℕ → Result (ℕ × ℕ) Refusal → TextTable
standing text end (Err r) = refused r
standing text end (Ok (n, m)) = body_of n m (clauses_from n text end)

-- tokens of the same bytes have the same table
same_body : (n m : ℕ) (ts us : List Piece) → bytes_of ts ≡ bytes_of us → body_of n m (clauses n ts) ≡ body_of n m (clauses n us)
same_body n m ts us e =
    ap₂ (λ (c : Bool) (rs : List Row). cond (c && eqb (length rs) m) (accepted_table n rs) (refused Text)) (complete-same n ts us e) (rows_same n ts us e)

module _ (least : ℕ) (text : List ℕ) where
  tokens_same : bytes_of (tokens_from (without_remarks text) (header_of least (without_remarks text)).end)
      ≡ bytes_of (tokens_past text (header_of least text).end)
  unfolding parts_from tokens_past
  tokens_same =
      let i = (header_of least (without_remarks text)).end in
      let end = (header_of least text).end in
      ap (λ (l : List ℕ). bytes_of (not_empty (cut is_separator i l))) (header_same least text).rest ∙ same_tokens end i (drop end text)

  by-sizes : (x : Result (ℕ × ℕ) Refusal) → from_header (without_remarks text) (header_of least (without_remarks text)).end x
      ≡ standing text (header_of least text).end x
  by-sizes (Err r) = refl
  by-sizes (Ok (n, m)) =
      same_body n m (tokens_from (without_remarks text) (header_of least (without_remarks text)).end) (tokens_past text (header_of least text).end) tokens_same

  pub as_it_stands : plain_table least (without_remarks text) ≡ standing text (header_of least text).end (header_of least text).sizes
  as_it_stands =
      ap (from_header (without_remarks text) (header_of least (without_remarks text)).end) (header_same least text).sizes
      ∙ by-sizes (header_of least text).sizes
