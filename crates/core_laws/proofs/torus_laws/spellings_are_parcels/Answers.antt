use Rattle.core_laws.proofs.TorusParcels.{is_parcel}
use Rattle.core_laws.proofs.torus_laws.spellings_are_parcels.Goals as goal

pub returns : goal.returns
returns c = is_parcel
