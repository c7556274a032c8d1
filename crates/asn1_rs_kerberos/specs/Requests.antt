-- Requests of Kerberos.
use Rattle.std.specs.Prelude.{◌≡◌, ◌≢◌, codes}
use Rattle.asn1_rs.specs.Prelude.{Error, IsInvalidValue}
use Rattle.asn1_rs_kerberos.specs.declared.asked.Asked.{Asked}
use Rattle.asn1_rs_kerberos.specs.declared.body.KdcReqBody.{KdcReqBody}
use Rattle.asn1_rs_kerberos.specs.declared.request.KdcReq.{KdcReq}

-- a request of the type AS-REQ
abbrev pub IsAsReq : KdcReq → Type 0
IsAsReq request = request.msg_type.inner.value ≡ 10

-- a request of another type, and its refusal
abbrev pub IsNoAsReq : KdcReq → Error → Type 0
IsNoAsReq request e = (request.msg_type.inner.value ≢ 10) ×
    IsInvalidValue (record { 0 = 2 }) (codes "another message") e

-- the last six fields of what is asked for
abbrev pub asked_of : KdcReqBody → Asked
asked_of x = record {
  rtime = x.rtime;
  nonce = x.nonce;
  etype = x.etype;
  addresses = x.addresses;
  enc_authorization_data = x.enc_authorization_data;
  additional_tickets = x.additional_tickets;
}
