use Rattle.std.proofs.Common.{◌≡◌, map, take}
use Rattle.arrayvec.specs.ArrayVec.{array_vec_len}
use Rattle.torusmem_c.specs.Channels.{channel_record}
use Rattle.torusmem_c.proofs.routes.channel_records.Given as goal

-- the records of the channels so far
abbrev pub invariant-loop-channel : goal.invariant-loop-channel
invariant-loop-channel l = record {
  count : array_vec_len l.records ≡ l.channel-index;
  items : l.records.items ≡ map (channel_record l.torus) (take l.channel-index l.channels);
}
