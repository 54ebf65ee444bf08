-- The channels at a router's ports in the beginning.
use Rattle.std.proofs.Common.{◌≡◌, ◌≢◌, ℕ, zero, suc, ◌<◌, List, length, get_or, ap, ◌∙◌, refl, arith}
use Rattle.std.proofs.lemmas.List.FromFn.{fill_by_all}
use Rattle.torus.specs.Shape.{Shape, IsAccepted, IsNeighbour, tiles_of, dims_of, radix_of, digit_of, one_hop}
use Rattle.torus.specs.declared.shape.Dir.{Dir}
use Rattle.torus.specs.declared.shape.Dir.TheVariants.{Plus, Minus}
use Rattle.torus.proofs.Hops.{one_neighbour}
use Rattle.dateline_route.specs.Route.{with_digit}
use Rattle.dateline_route.proofs.Neighbours.{hop_is}
use Rattle.channel_number.specs.Order.{dir_at}
use Rattle.channel_number.specs.Ports.{port_count, hop_source}
use Rattle.flit_buffer.specs.Ends.{SendingEnd, ReceivingEnd}
use Rattle.flit_buffer.specs.Wants.{PortEnds, no_input, no_output}
use Rattle.router.specs.Beginning.{new_input, new_output, router_ports}

module _ (s : Shape) (is : IsAccepted s) (t d u : ℕ) (low : t < tiles_of s) (inside : d < dims_of s) where
  neighbour_is : (dir : Dir) → IsNeighbour s t d dir u → u ≡ with_digit s t d (one_hop dir (radix_of s d) (digit_of s t d))
  neighbour_is dir n = one_neighbour s is t d u (with_digit s t d (one_hop dir (radix_of s d) (digit_of s t d))) dir n (hop_is s is t d dir low inside)

  pub source_of_plus : (p : ℕ) → p ≡ 0 → IsNeighbour s t d Minus u → u ≡ hop_source s t d (dir_at p)
  source_of_plus zero e n = neighbour_is Minus n
  source_of_plus (suc p) e n = absurd (omega arith)

  pub source_of_minus : (p : ℕ) → p ≢ 0 → IsNeighbour s t d Plus u → u ≡ hop_source s t d (dir_at p)
  source_of_minus zero e n = absurd (e refl)
  source_of_minus (suc p) e n = neighbour_is Plus n

-- ports whose ends are the new ones are the new ports
pub ports_are_new : (s : Shape) (t depth words : ℕ) (inputs : List ReceivingEnd) (outputs : List SendingEnd) (p : PortEnds)
    → length inputs ≡ port_count (dims_of s) → length outputs ≡ port_count (dims_of s)
    → ((i : ℕ) → i < port_count (dims_of s) → get_or inputs i no_input ≡ new_input s t depth i)
    → ((o : ℕ) → o < port_count (dims_of s) → get_or outputs o no_output ≡ new_output s t depth o)
    → p ≡ record { inputs = inputs; outputs = outputs; words = words }
    → words ≡ (router_ports s t depth).words → p ≡ router_ports s t depth
ports_are_new s t depth words inputs outputs p ins outs each_in each_out e same =
    let mk : List ReceivingEnd → List SendingEnd → ℕ → PortEnds = λ x y z. record { inputs = x; outputs = y; words = z } in
    e
    ∙ ap (λ x. mk x outputs words) (fill_by_all (new_input s t depth) inputs (port_count (dims_of s)) no_input ins each_in)
    ∙ ap (λ y. mk (router_ports s t depth).inputs y words) (fill_by_all (new_output s t depth) outputs (port_count (dims_of s)) no_output outs each_out)
    ∙ ap (λ z. mk (router_ports s t depth).inputs (router_ports s t depth).outputs z) same
