-- Where the blocks of ejection channels begin.
use Rattle.std.proofs.Common.{◌≡◌, ℕ, suc, ◌+◌, ◌*◌, ◌<◌, ◌≤◌, not, Bool, true, false, Option, Some, None, List, length, take, get_or, refl, sym, ◌∙◌, ap, arith}
use Rattle.std.specs.Prelude.{slice_get}
use Rattle.std.specs.List.{count_by}
use Rattle.std.proofs.lemmas.List.Sums.{count_by_more_yes, count_by_more_no}
use Rattle.std.proofs.lemmas.Option.{slice_get-get_or}
use Rattle.std.proofs.Math.Nat.{mul-le-mul_right, suc-mul}
use Rattle.network_judge.specs.declared.table.Kind.{Kind}
use Rattle.network_judge.specs.declared.table.Kind.TheVariants.{Injection, Hop, Ejection}
use Rattle.network_judge.specs.Table.{is_receiver, ejects}
use Rattle.network_judge.proofs.Ends.{column_low}
use Rattle.network_adaptive.specs.Spread.{leads_on, block_base}

pub receiver_is : (k : Option Kind) → is_receiver k ≡ true → k ≡ Some Ejection
receiver_is None e = cc
receiver_is (Some Injection) e = cc
receiver_is (Some Hop) e = cc
receiver_is (Some Ejection) e = refl

kind_leads : (k : Kind) → not (is_receiver (Some k)) ≡ not (ejects k)
kind_leads Injection = refl
kind_leads Hop = refl
kind_leads Ejection = refl

leads_is : (kinds : List Kind) (x : ℕ) → x < length kinds → leads_on kinds x ≡ not (ejects (get_or kinds x Hop))
leads_is kinds x low = ap (λ k. not (is_receiver k)) (slice_get-get_or kinds x Hop low) ∙ kind_leads (get_or kinds x Hop)

not_true : (b : Bool) → not b ≡ true → b ≡ false
not_true true e = cc
not_true false e = refl

not_false : (b : Bool) → not b ≡ false → b ≡ true
not_false true e = refl
not_false false e = cc

-- one channel more is counted
pub count_same : (kinds : List Kind) (x before : ℕ) → x < length kinds → leads_on kinds x ≡ true → before ≡ count_by ejects (take x kinds)
    → before ≡ count_by ejects (take (x + 1) kinds)
count_same kinds x before low leads e =
    let more = count_by_more_no ejects kinds x Hop low (not_true (ejects (get_or kinds x Hop)) (sym (leads_is kinds x low) ∙ leads)) in
    omega arith

pub count_more : (kinds : List Kind) (x before : ℕ) → x < length kinds → leads_on kinds x ≡ false → before ≡ count_by ejects (take x kinds)
    → before + 1 ≡ count_by ejects (take (x + 1) kinds)
count_more kinds x before low leads e =
    let more = count_by_more_yes ejects kinds x Hop low (not_false (ejects (get_or kinds x Hop)) (sym (leads_is kinds x low) ∙ leads)) in
    omega arith

-- a block is there
pub base_room : (kinds : List Kind) (ways j : ℕ) → slice_get kinds j ≡ Some Ejection
    → block_base kinds ways j + length kinds * ways ≤ count_by ejects kinds * (length kinds * ways)
base_room kinds ways j e =
    let n : ℕ = length kinds * ways in
    let c : ℕ = count_by ejects (take j kinds) in
    let less = column_low kinds j e in
    let a : suc c * n ≤ count_by ejects kinds * n = mul-le-mul_right n (let l : suc c ≤ count_by ejects kinds = omega arith in l) in
    let b : suc c * n ≡ c * n + n = suc-mul c n in
    omega arith

-- and it is no larger than all
pub block_low : (kinds : List Kind) (ways j : ℕ) → slice_get kinds j ≡ Some Ejection
    → length kinds * ways ≤ count_by ejects kinds * (length kinds * ways)
block_low kinds ways j e = let r = base_room kinds ways j e in omega arith
