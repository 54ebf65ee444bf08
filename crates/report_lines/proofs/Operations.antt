-- What reading takes from packet's table of operations.
use Rattle.std.proofs.Common.{◌≡◌, ◌<◌, ◌+◌, ◌==◌, ℕ, suc, true, false, List, [], ◌∷◌, ◌++◌, length, drop, take, IfSome, refl, ap, arith, ⊎_elim}
use Rattle.std.specs.List.{after_first, before_first, find, position_or_len}
use Rattle.std.specs.Str.{bytes_eq}
use Rattle.std.proofs.lemmas.Bool.{cases_Bool, eqb-true}
use Rattle.std.proofs.lemmas.Slice.Eq.{bytes_eq-Decides}
use Rattle.packet.specs.declared.kinds.Code.{Code}
use Rattle.packet.specs.declared.kinds.Code.TheVariants as code
use Rattle.packet.specs.Kinds.{code_of}
use Rattle.packet.specs.Names.{arity, code_named, code_word, every_code}
use Rattle.packet.specs.Reading.{op_with}
use Rattle.packet.specs.Spelling.{values_of_op}
use Rattle.report_lines.specs.Reading.{is_space}

-- no word has a space
pub record EndsAtSpace (word text : List ℕ) : Type 0 where
  pub before : before_first is_space (word ++ 32 ∷ text) ≡ word
  pub after : after_first is_space (word ++ 32 ∷ text) ≡ text

pub word_ends : (c : Code) (text : List ℕ) → EndsAtSpace (code_word c) text
word_ends code.Load text = record { before = refl; after = refl }
word_ends code.Store text = record { before = refl; after = refl }
word_ends code.Swap text = record { before = refl; after = refl }
word_ends code.Cas text = record { before = refl; after = refl }
word_ends code.Add text = record { before = refl; after = refl }
word_ends code.And text = record { before = refl; after = refl }
word_ends code.Or text = record { before = refl; after = refl }
word_ends code.Xor text = record { before = refl; after = refl }
word_ends code.Max text = record { before = refl; after = refl }
word_ends code.Min text = record { before = refl; after = refl }

-- one more byte before the first space
before_more : (b : ℕ) (text : List ℕ) → (b == 32) ≡ false → before_first is_space (b ∷ text) ≡ b ∷ before_first is_space text
before_more b text apart =
    let more : position_or_len is_space (b ∷ text) ≡ suc (position_or_len is_space text) = rw apart (omega arith) in
    ap (λ n. take n (b ∷ text)) more

after_more : (b : ℕ) (text : List ℕ) → (b == 32) ≡ false → after_first is_space (b ∷ text) ≡ after_first is_space text
after_more b text apart =
    let more : position_or_len is_space (b ∷ text) + 1 ≡ suc (position_or_len is_space text + 1) = rw apart (omega arith) in
    ap (λ n. drop n (b ∷ text)) more

-- what stands behind a space
pub space_splits : (text : List ℕ) → 0 < length (after_first is_space text) → text ≡ before_first is_space text ++ 32 ∷ after_first is_space text
space_splits [] some = absurd (omega arith)
space_splits (b ∷ text) some =
    ⊎_elim
    (λ (here : (b == 32) ≡ true). rw here (ap (λ x. x ∷ text) (eqb-true b 32 here)))
    (λ (apart : (b == 32) ≡ false).
    let after = after_more b text apart in
    rw (before_more b text apart, after) (ap (λ (t : List ℕ). b ∷ t) (space_splits text (rw after at some))))
    (cases_Bool (b == 32))

-- a word that names an operation is its word
found_word : (word : List ℕ) (cs : List Code) → IfSome (find (λ code. bytes_eq word (code_word code)) cs) (λ c. word ≡ code_word c)
found_word word [] = tt
found_word word (c ∷ cs) =
    ⊎_elim
    (λ (same : bytes_eq word (code_word c) ≡ true). rw same ((bytes_eq-Decides word (code_word c)).0 same))
    (λ (apart : bytes_eq word (code_word c) ≡ false). rw apart (found_word word cs))
    (cases_Bool (bytes_eq word (code_word c)))

pub named_word : (word : List ℕ) → IfSome (code_named word) (λ c. word ≡ code_word c)
named_word word = found_word word every_code

-- an operation that is made of its name and values
pub record IsMadeOf (c : Code) (v w : ℕ) : Type 0 where
  pub name : code_of (op_with c v w) ≡ c
  pub values : values_of_op (op_with c v w) ≡ take (arity c) (v ∷ w ∷ [])

pub made_of : (c : Code) (v w : ℕ) → IsMadeOf c v w
made_of code.Load v w = record { name = refl; values = refl }
made_of code.Store v w = record { name = refl; values = refl }
made_of code.Swap v w = record { name = refl; values = refl }
made_of code.Cas v w = record { name = refl; values = refl }
made_of code.Add v w = record { name = refl; values = refl }
made_of code.And v w = record { name = refl; values = refl }
made_of code.Or v w = record { name = refl; values = refl }
made_of code.Xor v w = record { name = refl; values = refl }
made_of code.Max v w = record { name = refl; values = refl }
made_of code.Min v w = record { name = refl; values = refl }
