-- The `entry` lines go on, and leave the last words.
use Rattle.std.proofs.Common.{◌≡◌, ℕ, ◌+◌, ◌<◌, ◌≤◌, ◌%◌, true, List, [], ◌∷◌, ◌++◌, length, map, sym, subst, ◌∙◌, arith, append_assoc}
use Rattle.std.specs.List.{AllByRecursion}
use Rattle.std.proofs.lemmas.List.{append-nil, length_push}
use Rattle.packet.specs.declared.kinds.Reply.{Reply}
use Rattle.packet.specs.Memory.{memory_after_one, memory_after, replies}
use Rattle.report_lines.specs.Contents.{is_newer}
use Rattle.report_lines.specs.declared.line.EntryLine.{EntryLine}
use Rattle.report_lines.specs.declared.line.ReportLine.{ReportLine}
use Rattle.report_lines.specs.declared.line.ReportLine.TheVariants.{Entry}
use Rattle.report_check.specs.Seen.{last_bank, entries_at, line_operation}
use Rattle.report_check.proofs.Going.{GoesOn, seen_at}

abbrev pub reply_in : EntryLine → Reply
reply_in e = e.reply

-- an entry of a home bank, of a processor and of a tag
pub record Stands (v t w : ℕ) (e : EntryLine) : Type 0 where
  pub bank : e.bank < t
  pub source : e.source < t
  pub tag : e.tag < 16
  pub inside : e.address < w
  pub home : e.address % t ≡ e.bank
  pub version : is_newer e.op ≡ true → v ≡ 2

-- each entry is the next of its bank, and banks do not fall
abbrev pub AreNext : List EntryLine → List EntryLine → Type 0
AreNext done [] = Unit {0}
AreNext done (e ∷ es) = (last_bank done ≤ e.bank) × (e.place ≡ length (entries_at done e.bank)) × AreNext (done ++ e ∷ []) es

-- the entries that are left, behind those that are done
pub record Enters (v t w : ℕ) (m last : List ℕ) (done es all : List EntryLine) : Type 0 where
  pub next : AreNext done es
  pub stand : AllByRecursion (Stands v t w) es
  pub told : replies (map line_operation es) m ≡ map reply_in es
  pub left : memory_after (map line_operation es) m ≡ last
  pub few : length done + length es ≤ 65536
  pub are : done ++ es ≡ all

-- what follows the `entry` lines goes on
abbrev pub BehindEntryLines : ℕ → ℕ → ℕ → List ℕ → List ℕ → List EntryLine → List ReportLine → Type 0
BehindEntryLines v t w last ins all rest = (n : ℕ) → 2 ≤ n → n ≤ 4 → GoesOn (seen_at n v t w last ins all [] [] []) rest

same_head : {X : Type 0} (x y : X) (xs ys : List X) → x ∷ xs ≡ y ∷ ys → x ≡ y
same_head x y xs ys same = cc

same_tail : {X : Type 0} (x y : X) (xs ys : List X) → x ∷ xs ≡ y ∷ ys → xs ≡ ys
same_tail x y xs ys same = cc

enters_more : (v t w : ℕ) (m last : List ℕ) (done es all : List EntryLine) (e : EntryLine) → Enters v t w m last done (e ∷ es) all
    → Enters v t w (memory_after_one (line_operation e) m) last (done ++ e ∷ []) es all
enters_more v t w m last done es all e o =
    record {
      next = o.next.2;
      stand = o.stand.1;
      told = same_tail _ _ _ _ o.told;
      left = o.left;
      few = omega (arith, o.few, length_push done e);
      are = append_assoc done (e ∷ []) es ∙ o.are;
    }

pub entries_on : (v t w n : ℕ) (m last ins : List ℕ) (done es all : List EntryLine) (rest : List ReportLine) → 2 ≤ n → n ≤ 4 → Enters v t w m last done es all
    → BehindEntryLines v t w last ins all rest
    → GoesOn (seen_at n v t w m ins done [] [] []) (map Entry es ++ rest)
entries_on v t w n m last ins done [] all rest low high o on =
    let are : done ≡ all = sym (append-nil done) ∙ o.are in
    subst (λ x. GoesOn (seen_at n v t w x ins done [] [] []) rest) (sym o.left)
    (subst (λ x. GoesOn (seen_at n v t w last ins x [] [] []) rest) (sym are) (on n low high))
entries_on v t w n m last ins done (e ∷ es) all rest low high o on = (
  record {
    section = record { shaped = low; early = high };
    next = record { bank = o.stand.0.bank; rises = o.next.0; next = o.next.1; source = o.stand.0.source; tag = o.stand.0.tag; room = omega (arith, o.few) };
    home = record { inside = o.stand.0.inside; home = o.stand.0.home };
    version = o.stand.0.version;
    reply = sym (same_head _ _ _ _ o.told);
  },
  entries_on v t w 4 (memory_after_one (line_operation e) m) last ins (done ++ e ∷ []) es all rest (omega arith) (omega arith)
      (enters_more v t w m last done es all e o) on,
)
