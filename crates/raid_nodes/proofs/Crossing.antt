-- A node may cross threads, as far as its controllers may: shown of its parts one by one, since one search for all comes to its limit.
use denote.RattleType.{RattleType}
use denote.Param.Object.{Ghosts, table_of}
use denote.Param.Sent.{Sends}
use denote.Param.Send.{IsSend, sendable}
use denote.Param.SendFields.{declared_send, variants_send, as_row_send}
use Rattle.std.proofs.Crossing.{crosses, dyn_box_send}
use Rattle.raid_base.proofs.list.Listed.TheSendSync.{the_send as list_send}
use Rattle.raid_workload.proofs.workload.Workload.TheSendSync.{the_send as workload_send}
use Rattle.raid_control.specs.contracts.rack.Slot as Slot
use Rattle.raid_control.specs.contracts.rack.Rack as Rack
use Rattle.raid_switch.specs.contracts.eras.Eras as Eras
use Rattle.raid_force.specs.contracts.force.Force as Force
use Rattle.raid_record.proofs.records.Record.TheSendSync.{the_send as record_send}
use Rattle.raid_sequencer.specs.contracts.parts.Parts as Parts
use Rattle.raid_sequencer.specs.contracts.sequencer.Sequencer as Sequencer
use Rattle.raid_site.proofs.server.SiteServer.TheSendSync.{the_send as site_send}
use Rattle.raid_monitor.proofs.Monitor.TheSendSync.{the_send as monitor_send}
use Rattle.raid_link.proofs.ends.Sender.TheSendSync.{the_send as sender_send}
use Rattle.raid_link.proofs.ends.Receiver.TheSendSync.{the_send as receiver_send}
use Rattle.raid_link.proofs.way.OnTheWay.TheSendSync.{the_send as way_send, the_sync as way_sync}
use Rattle.raid_nodes.specs.contracts.server.Server as Server
use Rattle.raid_nodes.specs.contracts.node.ServerNode as ServerNode

module _ (D : RattleType) (g : Ghosts D.Denot) (s : Sends (table_of D.Denot g)) (d : IsSend D) where
  slot_send : IsSend (Slot.the_row D g)
  slot_send = declared_send (Slot.the_type D g) (search sendable, (search (as_row_send, sendable, dyn_box_send, s, d) depth 20, tt))

  rack_send : IsSend (Rack.the_row D g)
  rack_send = declared_send (Rack.the_type D g) (search (sendable, crosses, slot_send) depth 20 fits 100000, tt)

  eras_send : IsSend (Eras.the_row D g)
  eras_send = declared_send (Eras.the_type D g) (search (as_row_send, sendable, dyn_box_send, s, d) depth 20, (search (as_row_send, crosses, sendable, dyn_box_send, s, d) depth 40 fits 100000, (search sendable, (search sendable, tt))))

  force_send : IsSend (Force.the_row D g)
  force_send = declared_send (Force.the_type D g) (eras_send, (rack_send, (search sendable, (search sendable, (search (as_row_send, sendable, crosses) depth 40 fits 100000, (search sendable, (search sendable, tt)))))))

  parts_send : IsSend (Parts.the_row D g)
  parts_send = declared_send (Parts.the_type D g) (record_send, (force_send, tt))

  sequencer_send : IsSend (Sequencer.the_row D g)
  sequencer_send = declared_send (Sequencer.the_type D g) (workload_send, (parts_send, (search sendable, (search sendable, tt))))

  server_send : IsSend (Server.the_row D g)
  server_send = variants_send (Server.enum D g) ((monitor_send, tt), ((sequencer_send, tt), ((site_send, tt), tt)))

  pub node_send : IsSend (ServerNode.the_row D g)
  node_send = declared_send (ServerNode.the_type D g) (search sendable, (server_send, (search sendable, (search (as_row_send, list_send, sendable, crosses) depth 20 fits 100000, (search (as_row_send, sender_send, sendable, crosses) depth 20 fits 100000, (search (as_row_send, receiver_send, sendable, crosses) depth 20 fits 100000, (search sendable, (search sendable, (search (as_row_send, way_send, way_sync, sendable, crosses) depth 20 fits 100000, (search sendable, (search (as_row_send, sendable) depth 20, tt)))))))))))
