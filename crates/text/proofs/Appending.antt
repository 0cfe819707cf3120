-- Bytes appended one after the other are the bytes joined. By induction on what is appended.
use mathlib.Core.Path.{◌≡◌, refl, sym, ap, ◌∙◌, subst}
use mathlib.Core.List.{List, [], ◌∷◌, ◌++◌, append_assoc, append-nil}
use Prim.Native.Nat.{ℕ, suc, ◌+◌, ◌-◌, ◌≤◌, ◌<◌}
use native.Mathlib.Numerals.{add-one}
use native.Mathlib.Omega.{arith}
use lib.ListN.{length, get_or, set, take, drop, replicate, length-append}
use lib.Seq.{drop-cons, take-append_seam}
use borrow.Author.Tests.{lt-ltb}
use Rattle.text.specs.declared.Text.{Text}
use Rattle.text.specs.Texts.{text_of, pushed, appended}

-- bytes appended, and then others, are both appended joined
pub appended-join : (t : Text) (xs ys : List ℕ) → appended (appended t xs) ys ≡ appended t (xs ++ ys)
unfolding appended
appended-join t [] ys = refl
appended-join t (x ∷ xs) ys = appended-join (pushed t x) xs ys

-- one append after another
pub appended_then : (t : Text) (xs ys : List ℕ) (r s : Text) → r ≡ appended t xs → s ≡ appended r ys → s ≡ appended t (xs ++ ys)
appended_then t xs ys r s e h = h ∙ ap (λ (x : Text). appended x ys) e ∙ appended-join t xs ys

-- a byte pushed after what was appended
pub appended-push : (t : Text) (xs : List ℕ) (b : ℕ) → pushed (appended t xs) b ≡ appended t (xs ++ (b ∷ []))
unfolding appended
appended-push t xs b = appended-join t xs (b ∷ [])

-- what is left gives what the whole gives, when one byte is pushed
pub appended-next : (t : Text) (xs : List ℕ) (i : ℕ) → i < length xs → appended t (drop i xs) ≡ appended (pushed t (get_or xs i 0)) (drop (i + 1) xs)
unfolding appended
appended-next t xs i h = ap (λ (l : List ℕ). appended t l) (drop-cons xs i 0 h)
    ∙ ap (λ (k : ℕ). appended (pushed t (get_or xs i 0)) (drop k xs)) (sym (add-one i))

-- a store right after the bytes is at the first zero
set-behind : (xs : List ℕ) (k b : ℕ) → set (xs ++ (0 ∷ replicate k 0)) (length xs) b ≡ xs ++ (b ∷ replicate k 0)
set-behind [] k b = refl
set-behind (x ∷ xs) k b = ap (λ (l : List ℕ). x ∷ l) (set-behind xs k b)

pushed_text : (xs : List ℕ) (b : ℕ) → length xs < 256 → pushed (text_of xs) b ≡ text_of (xs ++ (b ∷ []))
pushed_text xs b h =
    let left : 256 - length xs ≡ suc (256 - (length xs + 1)) = omega arith in
    let more : length (xs ++ (b ∷ [])) ≡ length xs + 1 = length-append xs (b ∷ []) in
    rw (lt-ltb _ _ h)
    (λ i. record {
      bytes = (ap (λ (k : ℕ). set (xs ++ replicate k 0) (length xs) b) left ∙ set-behind xs (256 - (length xs + 1)) b
          ∙ sym (append_assoc xs (b ∷ []) (replicate (256 - (length xs + 1)) 0))
          ∙ ap (λ (k : ℕ). (xs ++ (b ∷ [])) ++ replicate (256 - k) 0) (sym more)) i;
      length = sym more i;
    })

-- what has room is joined
pub appended_text : (xs ys : List ℕ) → length xs + length ys ≤ 256 → appended (text_of xs) ys ≡ text_of (xs ++ ys)
unfolding appended
appended_text xs [] h = ap text_of (sym (append-nil xs))
appended_text xs (y ∷ ys) h =
    ap (λ (t : Text). appended t ys) (pushed_text xs y (omega arith))
    ∙ appended_text (xs ++ (y ∷ [])) ys (omega (arith, length-append xs (y ∷ [])))
    ∙ ap text_of (append_assoc xs (y ∷ []) ys)

-- three appends to the empty text, where they have room
pub composed : (xs ys zs : List ℕ) (e a b c : Text) → length xs + (length ys + length zs) ≤ 256
    → e ≡ text_of [] → a ≡ appended e xs → b ≡ appended a ys → c ≡ appended b zs → c ≡ text_of (xs ++ (ys ++ zs))
composed xs ys zs e a b c room he ha hb hc =
    appended_then e xs (ys ++ zs) a c ha (appended_then a ys zs b c hb hc)
    ∙ ap (λ (t : Text). appended t (xs ++ (ys ++ zs))) he
    ∙ appended_text [] (xs ++ (ys ++ zs)) (omega (arith, length-append xs (ys ++ zs), length-append ys zs))

-- a text by value gives back its bytes
pub text_back : (xs : List ℕ) → take (length xs) (xs ++ replicate (256 - length xs) 0) ≡ xs
text_back xs = take-append_seam xs (replicate (256 - length xs) 0)

-- the bytes of a text are all there
pub text_within : (t : Text) (xs : List ℕ) → t ≡ text_of xs → t.length ≤ length t.bytes
text_within t xs e =
    subst (λ (x : Text). x.length ≤ length x.bytes) (sym e) (omega (arith, length-append xs (replicate (256 - length xs) 0)))
