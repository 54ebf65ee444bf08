use Rattle.std.proofs.Common.{◌∙◌, ap}
use Rattle.machine_record.specs.Checksum.{checksum}
use Rattle.machine_record.specs.Recorded.{recording_of}
use Rattle.machine_record.proofs.ReadBack.{sealed_back}
use Rattle.machine_record.proofs.bytes.bytes_of.Goals as goal

pub returns-clause-back : goal.returns-clause-back
returns-clause-back g c =
    sealed_back (recording_of c.args.kept.now) c.put_number.new.bytes.items c.in_ok-bytes.bytes.items c.checksum-sum.result c.in_ok-bytes.ensures.fit
    c.in_ok-bytes.ensures.bytes (c.checksum-sum.ensures ∙ ap checksum c.deref.ensures.value) c.in_ok-put_number.ensures.put
