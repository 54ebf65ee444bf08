-- The `init` lines go on, and leave the opening words.
use Rattle.std.proofs.Common.{◌≡◌, ℕ, zero, suc, ◌+◌, ◌≤◌, List, [], ◌∷◌, ◌++◌, length, map, filter, replicate, slice_set, sym, ap, subst, ◌∙◌, arith}
use Rattle.std.proofs.Common.{append_assoc}
use Rattle.std.specs.List.{enumerate_from}
use Rattle.std.proofs.lemmas.List.{set_at, length_push}
use Rattle.std.proofs.lemmas.List.Sums.{fold_push}
use Rattle.report_lines.specs.declared.line.ReportLine.{ReportLine}
use Rattle.report_lines.specs.declared.line.ReportLine.TheVariants.{Init}
use Rattle.report_check.specs.Seen.{above_last}
use Rattle.report_check.proofs.Going.{GoesOn, seen_at}
use Rattle.report_check.proofs.SetWords.{is_set, set_kept}

-- the words from an address on, behind those in front
pub record Opens (w address : ℕ) (whole m front words : List ℕ) : Type 0 where
  pub at : length front ≡ address
  pub size : address + length words ≡ w
  pub are : front ++ words ≡ whole
  pub memory : m ≡ front ++ replicate (length words) 0

-- what follows the `init` lines goes on
abbrev pub BehindInits : ℕ → ℕ → ℕ → List ℕ → List ReportLine → Type 0
BehindInits v t w whole rest = (n : ℕ) (ins : List ℕ) → 2 ≤ n → n ≤ 3 → GoesOn (seen_at n v t w whole ins [] [] [] []) rest

abbrev init_of : ℕ × ℕ → ReportLine
init_of p = Init p.0 p.1

opens_more : (w address x : ℕ) (whole m now front words : List ℕ) → Opens w address whole m front (x ∷ words) → now ≡ front ++ x ∷ replicate (length words) 0
    → Opens w (address + 1) whole now (front ++ x ∷ []) words
opens_more w address x whole m now front words o is =
    record {
      at = omega (arith, length_push front x, o.at);
      size = omega (arith, o.size);
      are = append_assoc front (x ∷ []) words ∙ o.are;
      memory = is ∙ sym (append_assoc front (x ∷ []) (replicate (length words) 0));
    }

pub inits_on : (v t w n : ℕ) (ins : List ℕ) (address : ℕ) (whole m front words : List ℕ) (rest : List ReportLine) → 2 ≤ n → n ≤ 3 → above_last ins ≤ address
    → Opens w address whole m front words → BehindInits v t w whole rest
    → GoesOn (seen_at n v t w m ins [] [] [] []) (map init_of (filter is_set (enumerate_from address words)) ++ rest)
inits_on v t w n ins address whole m front [] rest low high rises o on =
    subst (λ x. GoesOn (seen_at n v t w x ins [] [] [] []) rest) (sym (o.memory ∙ o.are)) (on n ins low high)
inits_on v t w n ins address whole m front (zero ∷ words) rest low high rises o on =
    inits_on v t w n ins (address + 1) whole m (front ++ 0 ∷ []) words rest low high (omega (arith, rises))
    (opens_more w address 0 whole m m front words o o.memory) on
inits_on v t w n ins address whole m front (suc x ∷ words) rest low high rises o on =
    let now : List ℕ = slice_set m address (suc x) in
    let is : now ≡ front ++ suc x ∷ replicate (length words) 0 =
    ap (λ (k : List ℕ). slice_set k address (suc x)) o.memory ∙ set_at front 0 (replicate (length words) 0) (suc x) address o.at in
    subst (λ ps. GoesOn (seen_at n v t w m ins [] [] [] []) (map init_of ps ++ rest)) (sym (set_kept address x (enumerate_from (address + 1) words))) (
      record { section = record { shaped = low; early = high }; rises = rises; inside = omega (arith, o.size); not_zero = omega arith },
      inits_on v t w 3 (ins ++ address ∷ []) (address + 1) whole now (front ++ suc x ∷ []) words rest (omega arith) (omega arith)
          (omega (arith, fold_push {A = ℕ} {B = ℕ} (λ _ k. k + 1) 0 ins address)) (opens_more w address (suc x) whole m now front words o is) on,
    )
