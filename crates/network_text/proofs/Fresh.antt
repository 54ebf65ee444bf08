-- Where no channel is given no reply is.
use Rattle.std.proofs.Common.{◌≡◌, ℕ, zero, suc, cond, List, [], ◌∷◌, length, replicate, refl, ◌∙◌, zero-add, arith}
use Rattle.std.specs.List.{count_by}
use Rattle.std.proofs.lemmas.List.Sums.{sum_by-cons}
use Rattle.network_judge.specs.declared.table.Kind.TheVariants.{Hop}
use Rattle.network_judge.specs.declared.table.Kind.{Kind}
use Rattle.network_judge.specs.declared.table.Join.{Join}
use Rattle.network_judge.specs.declared.table.Reply.{Reply}
use Rattle.network_judge.specs.Table.{table_of, ejects}
use Rattle.network_judge.specs.Replies.{AreReplies}

pub no_replies : (kinds new : List Kind) (joins : List Join) (choices : List ℕ) (replies : List Reply) → length kinds ≡ 0
    → AreReplies (table_of kinds joins choices) replies → AreReplies (table_of new joins choices) replies
no_replies [] new joins choices replies empty are = λ x y r. let both = are x y r in let none = both.0 in absurd (cc)
no_replies (k ∷ kinds) new joins choices replies empty are = absurd (omega arith)

-- nor is there an ejection channel, as among hops alone
pub no_ejections : (kinds : List Kind) → length kinds ≡ 0 → count_by ejects kinds ≡ 0
no_ejections [] empty = refl
no_ejections (k ∷ kinds) empty = absurd (omega arith)

pub hops_alone : (n : ℕ) → count_by ejects (replicate n Hop) ≡ 0
hops_alone zero = refl
hops_alone (suc n) = sum_by-cons (λ (k : Kind). cond {A = ℕ} (ejects k) 1 0) Hop (replicate n Hop) ∙ zero-add (count_by ejects (replicate n Hop)) ∙ hops_alone n
