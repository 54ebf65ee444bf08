use Rattle.std.proofs.Common.{◌≡◌, ℕ, ◌<◌, ◌^◌, List, ◌++◌, length, ◌∙◌, ap, subst}
use Rattle.machine_record.specs.Bytes.{number_bytes, the_mark, the_version}
use Rattle.machine_record.proofs.Pieces.{six}
use Rattle.machine_record.proofs.bytes.put_head.Goals as goal

-- a number that is a length
as_length : (o x : List ℕ) (n k : ℕ) → n ≡ k → x ≡ o ++ number_bytes n → x ≡ o ++ number_bytes k
as_length o x n k is put = put ∙ ap (λ (m : ℕ). o ++ number_bytes m) is

pub returns-clause-put : goal.returns-clause-put
returns-clause-put g c =
    let kept = c.args.kept.now in
    six c.args.bytes.now.items (number_bytes the_mark) (number_bytes the_version) (number_bytes (length kept.machine.items))
    (number_bytes (length kept.scripts.items)) (number_bytes (length kept.rows.items)) (number_bytes (length kept.actions.items)) _ _ _ _ _ _
    c.in_ok-put_number.ensures.put c.in_ok-put_number-2.ensures.put
    (as_length c.put_number-2.new.bytes.items c.put_number-3.new.bytes.items c.len.result (length kept.machine.items) (c.len.ensures ∙ kept.machine.ok.0)
    c.in_ok-put_number-3.ensures.put)
    (as_length c.put_number-3.new.bytes.items c.put_number-4.new.bytes.items c.len-2.result (length kept.scripts.items)
    (c.len-2.ensures ∙ kept.scripts.ok.0) c.in_ok-put_number-4.ensures.put)
    (as_length c.put_number-4.new.bytes.items c.put_number-5.new.bytes.items c.len-3.result (length kept.rows.items) (c.len-3.ensures ∙ kept.rows.ok.0)
    c.in_ok-put_number-5.ensures.put)
    (as_length c.put_number-5.new.bytes.items c.put_number-6.new.bytes.items c.len-4.result (length kept.actions.items)
    (c.len-4.ensures ∙ kept.actions.ok.0) c.in_ok-put_number-6.ensures.put)

pub returns-clause-fit : goal.returns-clause-fit
returns-clause-fit g c =
    let kept = c.args.kept.now in
    record {
      machine = subst (λ (n : ℕ). n < 2 ^ 64) (c.len.ensures ∙ kept.machine.ok.0) c.in_ok-put_number-3.ensures.fits;
      scripts = subst (λ (n : ℕ). n < 2 ^ 64) (c.len-2.ensures ∙ kept.scripts.ok.0) c.in_ok-put_number-4.ensures.fits;
      rows = subst (λ (n : ℕ). n < 2 ^ 64) (c.len-3.ensures ∙ kept.rows.ok.0) c.in_ok-put_number-5.ensures.fits;
      actions = subst (λ (n : ℕ). n < 2 ^ 64) (c.len-4.ensures ∙ kept.actions.ok.0) c.in_ok-put_number-6.ensures.fits;
    }
