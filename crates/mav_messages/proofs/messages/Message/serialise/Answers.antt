-- Each message is written as its own call writes it.
use Rattle.mav_messages.proofs.messages.Message.serialise.Goals as goal

pub returns-in-Heartbeat-clause-bytes : goal.returns-in-Heartbeat-clause-bytes
returns-in-Heartbeat-clause-bytes c = rw c.in-Heartbeat.is c.write.ensures.bytes

pub returns-in-Heartbeat-clause-fits : goal.returns-in-Heartbeat-clause-fits
returns-in-Heartbeat-clause-fits c = rw c.in-Heartbeat.is c.write.ensures.fits

pub returns-in-Ping-clause-bytes : goal.returns-in-Ping-clause-bytes
returns-in-Ping-clause-bytes c = rw c.in-Ping.is c.write-in-Ping.ensures.bytes

pub returns-in-Ping-clause-fits : goal.returns-in-Ping-clause-fits
returns-in-Ping-clause-fits c = rw c.in-Ping.is c.write-in-Ping.ensures.fits

pub returns-in-ParamRequestRead-clause-bytes : goal.returns-in-ParamRequestRead-clause-bytes
returns-in-ParamRequestRead-clause-bytes c = rw c.in-ParamRequestRead.is c.write-in-ParamRequestRead.ensures.bytes

pub returns-in-ParamRequestRead-clause-fits : goal.returns-in-ParamRequestRead-clause-fits
returns-in-ParamRequestRead-clause-fits c = rw c.in-ParamRequestRead.is c.write-in-ParamRequestRead.ensures.fits

pub returns-in-ParamRequestList-clause-bytes : goal.returns-in-ParamRequestList-clause-bytes
returns-in-ParamRequestList-clause-bytes c = rw c.in-ParamRequestList.is c.write-in-ParamRequestList.ensures.bytes

pub returns-in-ParamRequestList-clause-fits : goal.returns-in-ParamRequestList-clause-fits
returns-in-ParamRequestList-clause-fits c = rw c.in-ParamRequestList.is c.write-in-ParamRequestList.ensures.fits

pub returns-in-ParamValue-clause-bytes : goal.returns-in-ParamValue-clause-bytes
returns-in-ParamValue-clause-bytes c = rw c.in-ParamValue.is c.write-in-ParamValue.ensures.bytes

pub returns-in-ParamValue-clause-fits : goal.returns-in-ParamValue-clause-fits
returns-in-ParamValue-clause-fits c = rw c.in-ParamValue.is c.write-in-ParamValue.ensures.fits

pub returns-in-ParamSet-clause-bytes : goal.returns-in-ParamSet-clause-bytes
returns-in-ParamSet-clause-bytes c = rw c.in-ParamSet.is c.write-in-ParamSet.ensures.bytes

pub returns-in-ParamSet-clause-fits : goal.returns-in-ParamSet-clause-fits
returns-in-ParamSet-clause-fits c = rw c.in-ParamSet.is c.write-in-ParamSet.ensures.fits

pub returns-in-GlobalPositionInt-clause-bytes : goal.returns-in-GlobalPositionInt-clause-bytes
returns-in-GlobalPositionInt-clause-bytes c = rw c.in-GlobalPositionInt.is c.write-in-GlobalPositionInt.ensures.bytes

pub returns-in-GlobalPositionInt-clause-fits : goal.returns-in-GlobalPositionInt-clause-fits
returns-in-GlobalPositionInt-clause-fits c = rw c.in-GlobalPositionInt.is c.write-in-GlobalPositionInt.ensures.fits

pub returns-in-MissionCurrent-clause-bytes : goal.returns-in-MissionCurrent-clause-bytes
returns-in-MissionCurrent-clause-bytes c = rw c.in-MissionCurrent.is c.write-in-MissionCurrent.ensures.bytes

pub returns-in-MissionCurrent-clause-fits : goal.returns-in-MissionCurrent-clause-fits
returns-in-MissionCurrent-clause-fits c = rw c.in-MissionCurrent.is c.write-in-MissionCurrent.ensures.fits

pub returns-in-MissionRequestList-clause-bytes : goal.returns-in-MissionRequestList-clause-bytes
returns-in-MissionRequestList-clause-bytes c = rw c.in-MissionRequestList.is c.write-in-MissionRequestList.ensures.bytes

pub returns-in-MissionRequestList-clause-fits : goal.returns-in-MissionRequestList-clause-fits
returns-in-MissionRequestList-clause-fits c = rw c.in-MissionRequestList.is c.write-in-MissionRequestList.ensures.fits

pub returns-in-MissionCount-clause-bytes : goal.returns-in-MissionCount-clause-bytes
returns-in-MissionCount-clause-bytes c = rw c.in-MissionCount.is c.write-in-MissionCount.ensures.bytes

pub returns-in-MissionCount-clause-fits : goal.returns-in-MissionCount-clause-fits
returns-in-MissionCount-clause-fits c = rw c.in-MissionCount.is c.write-in-MissionCount.ensures.fits

pub returns-in-MissionClearAll-clause-bytes : goal.returns-in-MissionClearAll-clause-bytes
returns-in-MissionClearAll-clause-bytes c = rw c.in-MissionClearAll.is c.write-in-MissionClearAll.ensures.bytes

pub returns-in-MissionClearAll-clause-fits : goal.returns-in-MissionClearAll-clause-fits
returns-in-MissionClearAll-clause-fits c = rw c.in-MissionClearAll.is c.write-in-MissionClearAll.ensures.fits

pub returns-in-MissionItemReached-clause-bytes : goal.returns-in-MissionItemReached-clause-bytes
returns-in-MissionItemReached-clause-bytes c = rw c.in-MissionItemReached.is c.write-in-MissionItemReached.ensures.bytes

pub returns-in-MissionItemReached-clause-fits : goal.returns-in-MissionItemReached-clause-fits
returns-in-MissionItemReached-clause-fits c = rw c.in-MissionItemReached.is c.write-in-MissionItemReached.ensures.fits

pub returns-in-MissionAck-clause-bytes : goal.returns-in-MissionAck-clause-bytes
returns-in-MissionAck-clause-bytes c = rw c.in-MissionAck.is c.write-in-MissionAck.ensures.bytes

pub returns-in-MissionAck-clause-fits : goal.returns-in-MissionAck-clause-fits
returns-in-MissionAck-clause-fits c = rw c.in-MissionAck.is c.write-in-MissionAck.ensures.fits

pub returns-in-MissionRequestInt-clause-bytes : goal.returns-in-MissionRequestInt-clause-bytes
returns-in-MissionRequestInt-clause-bytes c = rw c.in-MissionRequestInt.is c.write-in-MissionRequestInt.ensures.bytes

pub returns-in-MissionRequestInt-clause-fits : goal.returns-in-MissionRequestInt-clause-fits
returns-in-MissionRequestInt-clause-fits c = rw c.in-MissionRequestInt.is c.write-in-MissionRequestInt.ensures.fits

pub returns-in-MissionItemInt-clause-bytes : goal.returns-in-MissionItemInt-clause-bytes
returns-in-MissionItemInt-clause-bytes c = rw c.in-MissionItemInt.is c.write-in-MissionItemInt.ensures.bytes

pub returns-in-MissionItemInt-clause-fits : goal.returns-in-MissionItemInt-clause-fits
returns-in-MissionItemInt-clause-fits c = rw c.in-MissionItemInt.is c.write-in-MissionItemInt.ensures.fits

pub returns-in-CommandLong-clause-bytes : goal.returns-in-CommandLong-clause-bytes
returns-in-CommandLong-clause-bytes c = rw c.in-CommandLong.is c.write-in-CommandLong.ensures.bytes

pub returns-in-CommandLong-clause-fits : goal.returns-in-CommandLong-clause-fits
returns-in-CommandLong-clause-fits c = rw c.in-CommandLong.is c.write-in-CommandLong.ensures.fits

pub returns-in-CommandAck-clause-bytes : goal.returns-in-CommandAck-clause-bytes
returns-in-CommandAck-clause-bytes c = rw c.in-CommandAck.is c.write-in-CommandAck.ensures.bytes

pub returns-in-CommandAck-clause-fits : goal.returns-in-CommandAck-clause-fits
returns-in-CommandAck-clause-fits c = rw c.in-CommandAck.is c.write-in-CommandAck.ensures.fits

pub returns-in-FileTransferProtocol-clause-bytes : goal.returns-in-FileTransferProtocol-clause-bytes
returns-in-FileTransferProtocol-clause-bytes c = rw c.in-FileTransferProtocol.is c.write-in-FileTransferProtocol.ensures.bytes

pub returns-in-FileTransferProtocol-clause-fits : goal.returns-in-FileTransferProtocol-clause-fits
returns-in-FileTransferProtocol-clause-fits c = rw c.in-FileTransferProtocol.is c.write-in-FileTransferProtocol.ensures.fits

pub returns-in-Statustext-clause-bytes : goal.returns-in-Statustext-clause-bytes
returns-in-Statustext-clause-bytes c = rw c.in-Statustext.is c.write-in-Statustext.ensures.bytes

pub returns-in-Statustext-clause-fits : goal.returns-in-Statustext-clause-fits
returns-in-Statustext-clause-fits c = rw c.in-Statustext.is c.write-in-Statustext.ensures.fits
