mod HostParts
