use Rattle.flit_buffer.proofs.Wirings.{ports_joined, granted_left, left_left, granted_right, left_right, joined_is_wired}
use Rattle.flit_buffer.proofs.laws.joined_wirings_serve_both.Goals as goal

pub returns : goal.returns
returns c = record {
  ports = ports_joined;
  first = λ depth around v w want there. (granted_left depth around v w want there, left_left depth around v w want there);
  second = λ depth around v w want. (granted_right depth around v w want, left_right depth around v w want);
  wired = joined_is_wired;
}
