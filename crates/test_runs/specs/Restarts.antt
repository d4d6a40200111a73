-- A scenario in which a drone starts again between the last item and its acknowledgement, and its report as a person
-- would write it down: the plan is there, and the station can't know it.
use Rattle.std.specs.Prelude.{ℕ, List, codes}

abbrev pub restart_between : List ℕ
restart_between = codes "drone 1\nstation 255 190\nitem 6 16 473977420 85455940\nbegin 255.190 1.1 mission\nflow 7\nrestart 1.1\ndeliver 7 1.1\ndeliver 9 255.190\ntick 255.190\ntick 255.190\ntick 255.190\ntick 255.190\ntick 255.190\ndeliver 10 1.1\ndeliver 11 255.190\ndeliver 12 1.1\ndeliver 13 255.190\n"

abbrev pub restart_between_report : List ℕ
restart_between_report = codes "1 255.190 PING 1 to 0.0\n2 1.1 PING 1 to 255.190\n3 255.190 ACK 15 mission to 1.1\n4 1.1 ACK 1 mission to 255.190\n5 255.190 COUNT mission 1 to 1.1\n6 1.1 REQUEST mission 0 to 255.190\n7 255.190 ITEM mission 0 to 1.1\ninstall 1.1 mission 1 from 255.190\n8 1.1 ACK 0 mission to 255.190\nrestart 1.1\n9 1.1 HEARTBEAT\ndrop 1.1 6\n10 255.190 PING 2 to 0.0\n11 1.1 PING 2 to 255.190\n12 255.190 ACK 15 mission to 1.1\n13 1.1 ACK 1 mission to 255.190\noutcome 255.190 unknown\nplan 1.1 mission 1\n0 6 16 0 1 00000000 00000000 00000000 00000000 473977420 85455940 00000000\nplan 1.1 fence 0\nplan 1.1 rally 0\n"
