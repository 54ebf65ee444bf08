use Rattle.machine_record.specs.Bytes.{half_bytes, number_bytes}
use Rattle.machine_record.proofs.Pieces.{six}
use Rattle.machine_record.proofs.bytes.put_row.Goals as goal

pub returns-clause-put : goal.returns-clause-put
returns-clause-put g c =
    six c.args.bytes.now.items (half_bytes c.args.row.processor) (half_bytes c.args.row.operation) (half_bytes c.args.row.address)
    (half_bytes c.args.row.lasts) (number_bytes c.args.row.first) (number_bytes c.args.row.second) _ _ _ _ _ _ c.in_ok-put_half.ensures.put
    c.in_ok-put_half-2.ensures.put c.in_ok-put_half-3.ensures.put c.in_ok-put_half-4.ensures.put c.in_ok-put_number.ensures.put c.in_ok-put_number-2.ensures.put

pub returns-clause-fits : goal.returns-clause-fits
returns-clause-fits g c = record {
  processor = c.in_ok-put_half.ensures.fits;
  operation = c.in_ok-put_half-2.ensures.fits;
  address = c.in_ok-put_half-3.ensures.fits;
  lasts = c.in_ok-put_half-4.ensures.fits;
  first = c.in_ok-put_number.ensures.fits;
  second = c.in_ok-put_number-2.ensures.fits;
}
