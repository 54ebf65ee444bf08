-- The machine's network as an abstract network: its channels, and what its packets are there.
pub use Rattle.core_laws.specs.Delivery.{next_flit as first_flit}
unfoldable pub use Rattle.core_laws.specs.Network.{net_of, parcel_of, request_parcel, response_parcel}
