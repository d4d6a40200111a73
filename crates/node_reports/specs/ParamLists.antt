-- Lists of parameters that end in a node. News say of a list how many values it has: the values are those that the
-- station knows after the call.
use Rattle.std.specs.Prelude.{◌≡◌, List, [], ◌∷◌, Option, Some, None}
use Rattle.param_proto.specs.declared.params.Param.{Param}
use Rattle.param_proto.specs.Client.{known_values}
use Rattle.mav_nodes.specs.News.{NodeEvent, Sends, Installs, Empties, Drops, Ends, Ends_command, Gives_param}
use Rattle.mav_nodes.specs.News.{Ends_params, Reaches, Captures, Ends_file}
use Rattle.node_reports.specs.Nodes.{Node, Drone, Station}

-- the values of a station's latest list, from the first up to one that it doesn't know
abbrev pub params_of : Option Node → List Param
params_of None = []
params_of (Some (Drone n)) = []
params_of (Some (Station n)) = known_values n.services.client.values

-- a list that ended has these values
abbrev pub HasValues : List Param → NodeEvent → Type 0
HasValues values (Ends_params (Some listed)) = listed ≡ values
HasValues values (Ends_params None) = Unit {0}
HasValues values (Sends packet message) = Unit {0}
HasValues values (Installs kind items by) = Unit {0}
HasValues values (Empties kind) = Unit {0}
HasValues values (Drops answer) = Unit {0}
HasValues values (Ends told) = Unit {0}
HasValues values (Ends_command result) = Unit {0}
HasValues values (Gives_param param) = Unit {0}
HasValues values (Reaches item) = Unit {0}
HasValues values (Captures total) = Unit {0}
HasValues values (Ends_file end) = Unit {0}

-- each of them
abbrev pub HaveValues : List Param → List NodeEvent → Type 0
HaveValues values [] = Unit {0}
HaveValues values (e ∷ es) = HasValues values e × HaveValues values es
