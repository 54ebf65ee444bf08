-- Where memory is refused the buffer stays as it was.
use Rattle.std.proofs.Common.{◌≡◌, inl, inr, refl, Option, Some, None, sym, ◌∙◌, ap, subst}
use Rattle.std.specs.Prelude.{List, ℕ, IfSome, option_map}
use Rattle.machine_record.specs.Bytes.{record_bytes}
use Rattle.machine_record.specs.Calls.{IsRestored}
use Rattle.machine_record.specs.Recording.{Recording}
use Rattle.machine_record.specs.Machine.{Recorded}
use Rattle.torusmem_c.specs.declared.outcome.Outcome.{Outcome}
use Rattle.torusmem_c.specs.Room.{LacksMemory, put_outcome, put_over}
use Rattle.torusmem_c.specs.Saving.{PutsKept}
use Rattle.torusmem_c.proofs.saving.put_record.Goals as goal

lacks : (v : Recorded) (kept : Option Recording) (before after : List ℕ) (r : Outcome) → LacksMemory before after r → PutsKept v kept before after r
lacks v None before after r h = inr h
lacks v (Some kept) before after r h = inr h

pub returns-in-Err : goal.returns-in-Err
returns-in-Err c =
    lacks c.args.machine.now c.args.machine.now.kept c.args.out.now c.args.out.now c.no_memory.result
    (record { buffer = refl; answer = c.no_memory.ensures })

-- the bytes of a record, which make the machine again
puts : (v : Recorded) (kept : Option Recording) (bytes before after : List ℕ) (r : Outcome) → Some bytes ≡ option_map record_bytes kept → IsRestored bytes v
    → after ≡ put_over bytes before → r ≡ put_outcome bytes before → PutsKept v kept before after r
puts v None bytes before after r is back put told = absurd (cc)
puts v (Some kept) bytes before after r is back put told =
    let same : bytes ≡ record_bytes kept = cc in
    inl (record {
      back = subst (λ (bs : List ℕ). IsRestored bs v) same back;
      buffer = put ∙ ap (λ (bs : List ℕ). put_over bs before) same;
      answer = told ∙ ap (λ (bs : List ℕ). put_outcome bs before) same;
    })

pub returns-in-Ok-Some : goal.returns-in-Ok-Some
returns-in-Ok-Some c =
    puts c.args.machine.now c.args.machine.now.kept c.in-Ok-Some.bytes.items c.args.out.now c.put_over.new.out c.put_over.result
    (sym (ap (option_map (λ b. b.items)) c.in-Ok-Some.field-0-is) ∙ c.in-Ok-Some.ensures.bytes)
    (subst (λ o. IfSome o (λ b. IsRestored b.items c.args.machine.now)) c.in-Ok-Some.field-0-is c.in-Ok-Some.ensures.back) (c.put_over.ensures.buffer ∙ ap (λ (bs : List ℕ). put_over bs c.args.out.now) c.as_slice.ensures.value)
    (c.put_over.ensures.value ∙ ap (λ (bs : List ℕ). put_outcome bs c.args.out.now) c.as_slice.ensures.value)
