use Rattle.std.proofs.Common.{List, ℕ, refl}
use Rattle.clap.proofs.OnLiterals.{clap_on_literals}
use Rattle.command_line.specs.Lines.{TakesAdminSocket, TakesFiles, TakesHosts, TakesHttp}
use Rattle.command_line.specs.Lines.{TakesImport, TakesJoined, TakesNetworks, TakesReplay}
use Rattle.command_line.specs.Lines.{TakesUnknownPeers}
use Rattle.command_line.proofs.laws.shown_lines.Goals as goal

replays : TakesReplay
unfolding clap_on_literals
replays self = record { taken = refl; named = refl; peers_is = refl; admin_is = refl }

imports : (self name one other : List ℕ) → TakesImport self name one other
unfolding clap_on_literals
imports self name one other = record {
  alone = record { taken = refl; named = refl; peers_is = refl; admin_is = refl };
  taken = refl;
  name_is = refl;
  both = refl;
}

joined : TakesJoined
unfolding clap_on_literals
joined self peers admin = (
  record { taken = refl; named = refl; peers_is = refl; admin_is = refl },
  record { taken = refl; named = refl; peers_is = refl; admin_is = refl },
)

networks : (self peers admin one other : List ℕ) → TakesNetworks self peers admin one other
unfolding clap_on_literals
networks self peers admin one other = record {
  taken = record { taken = refl; named = refl; peers_is = refl; admin_is = refl };
  both = refl;
}

files : (self file peers admin : List ℕ) → TakesFiles self file peers admin
unfolding clap_on_literals
files self file peers admin = record {
  alone = record { taken = refl; named = refl; peers_is = refl; admin_is = refl };
  checked = record { taken = refl; named = refl; file_is = refl };
  named = refl;
  named_is = refl;
  collected = record { taken = refl; named = refl; file_is = refl };
}

unknown : (self peers admin what : List ℕ) → TakesUnknownPeers self peers admin what
unfolding clap_on_literals
unknown self peers admin what = record {
  taken = record { taken = refl; named = refl; peers_is = refl; admin_is = refl };
  what_is = refl;
}

web : (self peers admin place : List ℕ) → TakesHttp self peers admin place
unfolding clap_on_literals
web self peers admin place = record {
  taken = record { taken = refl; named = refl; peers_is = refl; admin_is = refl };
  http_is = refl;
}

hosts : (self peers admin one other : List ℕ) → TakesHosts self peers admin one other
unfolding clap_on_literals
hosts self peers admin one other = record {
  taken = record { taken = refl; named = refl; peers_is = refl; admin_is = refl };
  both = refl;
}

socket : (self peers path admin : List ℕ) → TakesAdminSocket self peers path admin
unfolding clap_on_literals
socket self peers path admin = record {
  alone = record { taken = refl; named = refl; peers_is = refl; admin_is = refl };
  alone_is = refl;
  beside = record { taken = refl; named = refl; peers_is = refl; admin_is = refl };
  beside_is = refl;
}

pub returns : goal.returns
returns c = record {
  replay = replays;
  import = imports;
  joined = joined;
  networks = networks;
  unknown_peers = unknown;
  http = web;
  http_hosts = hosts;
  admin_socket = socket;
  files = files;
}
