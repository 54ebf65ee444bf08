-- What is read before a checksum that is right.
use Rattle.std.proofs.Common.{◌≡◌, ◌⊎◌, ℕ, Result, Ok, Err, sym, subst}
use Rattle.std.specs.Prelude.{IfErr, IfOk}
use Rattle.machine_record.specs.declared.reading.Unread.TheVariants.{Memory, At}
use Rattle.machine_record.specs.Recorded.{recording_of}
use Rattle.machine_record.specs.Recording.{Recording}
use Rattle.machine_record.proofs.ReadBack.{unsealed_is}
use Rattle.machine_record.proofs.reading.unsealed.Goals as goal

pub returns-clause-ok : goal.returns-clause-ok
returns-clause-ok g c =
    let same = unsealed_is c.args.bytes.now c.args.at c.checksum.result c.number_at.result c.number_at.ensures c.checksum.ensures c.if-number_at-checksum.false in
    subst (λ (q : Result Recording ℕ). IfOk c.body_of.result (λ kept. q ≡ Ok (recording_of kept))) (sym same) c.body_of.ensures.ok

pub returns-clause-err : goal.returns-clause-err
returns-clause-err g c =
    let same = unsealed_is c.args.bytes.now c.args.at c.checksum.result c.number_at.result c.number_at.ensures c.checksum.ensures c.if-number_at-checksum.false in
    subst (λ (q : Result Recording ℕ). IfErr c.body_of.result (λ why. (why ≡ Memory) ⊎ ((place : ℕ) × (why ≡ At place) × (q ≡ Err place)))) (sym same)
    c.body_of.ensures.err
