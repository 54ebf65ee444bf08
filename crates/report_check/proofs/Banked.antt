-- Each bank of an entry or of an order line is a tile.
use Rattle.std.proofs.Common.{◌≡◌, ◌≢◌, ℕ, ◌≤◌, List, [], length, refl, ap, ◌∙◌, arith}
use Rattle.report_lines.specs.declared.line.ReportLine.{ReportLine}
use Rattle.report_lines.specs.declared.line.ReportLine.TheVariants.{Header, Shape, Init, Entry, Answer, Word, Order, End}
use Rattle.report_check.specs.Seen.{Seen, nothing_seen, seen_after, seen_of, entries_at, orders_at}
use Rattle.report_check.specs.Good.{MayStand, AllStand}
use Rattle.report_check.proofs.Banks.{entries_at_other}
use Rattle.report_check.proofs.Orders.{orders_at_other}
use Rattle.report_check.proofs.Standing.{kept_by_all}

-- banks that are no tiles are empty
pub record Banked (s : Seen) : Type 0 where
  pub entries : (bank : ℕ) → s.tiles ≤ bank → entries_at s.entries bank ≡ []
  pub orders : (bank : ℕ) → s.tiles ≤ bank → orders_at s.orders bank ≡ []

next : (s : Seen) (line : ReportLine) → MayStand s line → Banked s → Banked (seen_after s line)
next s (Header version) may b = record { entries = b.entries; orders = b.orders }
next s (Shape radices words) may b = record { entries = λ bank past. refl; orders = λ bank past. refl }
next s (Init address value) may b = record { entries = b.entries; orders = b.orders }
next s (Entry e) may b = record {
  entries = λ bank past.
      let low = may.allowed.next.bank in
      let apart : bank ≢ e.bank = λ h. absurd (omega (arith, past, low, h)) in
      entries_at_other s.entries e bank apart ∙ b.entries bank past;
  orders = b.orders;
}
next s (Answer a) may b = record { entries = b.entries; orders = b.orders }
next s (Word address value) may b = record { entries = b.entries; orders = b.orders }
next s (Order o) may b = record {
  entries = b.entries;
  orders = λ bank past.
      let there = may.allowed.next.there in
      let apart : bank ≢ o.bank =
      λ h.
      let past_too : s.tiles ≤ o.bank = omega (arith, past, h) in
      let none : length (entries_at s.entries o.bank) ≡ 0 = ap length (b.entries o.bank past_too) in
      absurd (omega (arith, there, none)) in
      orders_at_other s.orders o bank apart ∙ b.orders bank past;
}
next s (End complete) may b = record { entries = b.entries; orders = b.orders }

-- so it is behind lines that stand
pub banked : (lines : List ReportLine) → AllStand nothing_seen lines → Banked (seen_of lines)
banked lines stand =
    kept_by_all {X = ℕ} (λ n line. n) (λ n s. Banked s) (λ n s line may b. next s line may b) 0 nothing_seen lines stand
    (record { entries = λ bank past. refl; orders = λ bank past. refl })
