mod AddressLaws
mod SendingLaws
