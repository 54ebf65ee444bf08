-- The service list of a bank: an entry for each service, in their order.
use Rattle.std.specs.Prelude.{◌<◌, ◌≤◌, ◌+◌, ◌*◌, ℕ, List, [], ◌∷◌, ◌++◌, length}
use Rattle.packet.specs.declared.kinds.Request.{Request}
use Rattle.packet.specs.declared.kinds.Response.{Response}
use Rattle.packet.specs.declared.kinds.Reply.{Reply}
use Rattle.packet.specs.Kinds.{code_of}
use Rattle.home_bank.specs.declared.entry.Entry.{Entry}

-- the tile whose bank's services they are, of how many tiles; an entry for each service, in their
-- order;
-- and for how many entries there is room
pub record Services : Type 0 where
  pub tile : ℕ
  pub tiles : ℕ
  pub entries : List Entry
  pub room : ℕ

-- low-order interleaving: the address of word w of a tile's bank (Dally and Towles, Principles and
-- Practices of Interconnection Networks, chapter 3; this project's own format)
abbrev pub address_of : ℕ → ℕ → ℕ → ℕ
address_of tile tiles w = tile + w * tiles

-- the entry of a request that was answered by this reply
abbrev pub entry_of : ℕ → ℕ → Request → Reply → Entry
entry_of tile tiles r reply =
    record {
      source = r.source;
      tag = r.tag;
      address = address_of tile tiles r.word;
      op = r.op;
      reply = reply;
    }

-- the packet that brings the reply to a request back to its source, with the place of its entry in
-- the service list
abbrev pub response_of : ℕ → ℕ → Request → Reply → Response
response_of tile place r reply =
    record {
      destination = r.source;
      source = tile;
      tag = r.tag;
      place = place;
      code = code_of r.op;
      reply = reply;
    }

-- the service list with one entry more
abbrev pub recorded : Services → Request → Reply → Services
recorded h r reply = record h { entries = h.entries ++ entry_of h.tile h.tiles r reply ∷ [] }

-- the service list with room for another number of entries
abbrev pub services_with_room : Services → ℕ → Services
services_with_room h room = record h { room = room }

-- what is true of every service list: a tile among at most 64, and at most 65536 entries (this
-- project's own limits)
pub record IsServiceList (h : Services) : Type 0 where
  pub tile : h.tile < h.tiles
  pub tiles : h.tiles ≤ 64
  pub entries : length h.entries ≤ h.room
  pub room : h.room ≤ 65536
